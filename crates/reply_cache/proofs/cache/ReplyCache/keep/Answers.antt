use Rattle.reply_cache.proofs.CacheLaws.{kept_either}
use Rattle.reply_cache.proofs.cache.ReplyCache.keep.Goals as goal

pub invariant_of-self-2 : goal.invariant_of-self-2
invariant_of-self-2 g c = (
  kept_either g.M.Maker.is_reply c.args.key c.args.value c.self.inside.entries c.put.new.self c.put.result c.self.invariant.0 c.requires.reply c.put.ensures.entries c.put.ensures.err,
  c.self.invariant.1,
  c.self.invariant.2,
)
