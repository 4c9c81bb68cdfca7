use Rattle.reply_cache.proofs.CacheLaws.{looked_replies, looks_more, misses_more, reply_found}
use Rattle.reply_cache.proofs.cache.ReplyCache.look.Goals as goal

pub invariant_of-self-2 : goal.invariant_of-self-2
invariant_of-self-2 g c =
    let was = c.self.invariant in
    let noted = c.note.ensures in (
      rw c.in_ok-found.ensures.moved (looked_replies g.M.Maker.is_reply _ c.self.inside.entries.entries was.0),
      looks_more c.self.inside.finds.items _ c.note.new.finds.items _ _ _ was.1 c.reserve.ensures.items noted.noted noted.looks,
      misses_more c.self.inside.finds.items _ c.note.new.finds.items _ _ _ was.2 c.reserve.ensures.items noted.noted noted.misses,
    )

pub returns-clause-reply : goal.returns-clause-reply
returns-clause-reply g c = reply_found g.M.Maker.is_reply c.args.key.now c.in_ok-found.found _ c.self.invariant.0 c.in_ok-found.ensures.found
