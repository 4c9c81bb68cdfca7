use Rattle.std.proofs.Common.{length}
use Rattle.report_reader.proofs.UtilLineLaws.{whole-within}
use Rattle.report_reader.proofs.util_line.util_with.Goals as goal

pub counted-requires : goal.counted-requires
counted-requires c = whole-within c.args.names.now _ c.in_ok-scope.scope.whole c.in_ok-scope.scope.known.items (length c.args.sizes.now) c.in_ok-scope.ensures.named c.if-not-scope.false c.requires.many
