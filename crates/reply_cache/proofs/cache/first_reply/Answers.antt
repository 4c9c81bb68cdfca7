use Rattle.std.proofs.Common.{sym, ◌∙◌}
use Rattle.reply_cache.proofs.CacheLaws.{first_of}
use Rattle.reply_cache.proofs.cache.first_reply.Goals as goal

pub returns-in-Some : goal.returns-in-Some
returns-in-Some c =
    first_of c.args.key.now (c.in-Some.first.now, c.in-Some.reply.now) c.args.entries.now.entries (sym c.in-Some.ensures) (sym c.eq.ensures ∙ c.if-eq.true)
