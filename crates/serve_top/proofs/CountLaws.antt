-- How many requests all sessions of a server served together.
use Rattle.std.proofs.Common.{◌≡◌, ℕ, ◌*◌, ◌<◌, ◌≤◌, ◌^◌, List, [], ◌∷◌, map, length, Option, sym, ap, subst, ◌∙◌, arith}
use Rattle.std.proofs.lemmas.List.{length-map}
use Rattle.reply_cache.specs.Steps.{Step}
use Rattle.solve_serve.specs.Limits.{session_limit}
use Rattle.solve_serve.specs.Session.{Outside, served_by, HasServed}
use Rattle.solve_serve.specs.declared.end.SessionEnd.{SessionEnd}
use Rattle.solve_serve.specs.declared.end.SessionEnd.TheVariants as ends
use Rattle.serve_clients.specs.Sessions.{Session, WereServed, HaveServed}
use Rattle.serve_top.specs.Text.{served_in}

-- a session serves at most its limit
served_few : (is_reply : List ℕ → List ℕ → Type 0) (went : List Step → Type 0) (end : SessionEnd) (before after : Outside) → HasServed is_reply went end before after → served_by end ≤ session_limit
served_few is_reply went (ends.Closed served) before after h = omega (arith, h.cause.0)
served_few is_reply went (ends.Cut served) before after h = omega (arith, h.cause.0)
served_few is_reply went (ends.Long served place) before after h = omega (arith, h.cause.0)
served_few is_reply went (ends.Limit served) before after h = omega (arith, h.cause.0)
served_few is_reply went (ends.Read served) before after h = omega (arith, h.cause.0)
served_few is_reply went (ends.Write served) before after h = omega (arith, h.cause.0)
served_few is_reply went (ends.Memory served) before after h = omega (arith, h.cause.0)

module _ {S K : Type 0} (left : S → Option (List ℕ)) (reads : S → ℕ) (held : K → Option (List ℕ)) (writes : K → ℕ) (is_reply : List ℕ → List ℕ → Type 0) where
  served_by_all : (ss : List (Session S K)) → WereServed left reads held writes is_reply ss → served_in (map (λ s. s.end) ss) ≤ session_limit * length ss
  served_by_all [] h = omega arith
  served_by_all (s ∷ ss) h =
      let first = served_few is_reply (λ steps. Unit {0}) s.end _ _ h.0 in
      let others = served_by_all ss h.1 in
      omega (arith, first, others)

  -- sixty-four sessions serve fewer than 2^64 requests
  pub served_told : (clients : ℕ) (ends : List SessionEnd) (looks : ℕ) (waiting waiting' closed closed' : Option (List (S × K))) → clients ≤ 64 → HaveServed left reads held writes is_reply clients ends looks waiting waiting' closed closed'
      → served_in ends < 2 ^ 64
  served_told clients ends looks waiting waiting' closed closed' few h =
      let count : length h.sessions ≡ clients = sym (length-map h.sessions (λ s. s.end)) ∙ ap length (sym h.told) ∙ h.count in
      let all = served_by_all h.sessions h.each in
      let most : served_in (map (λ s. s.end) h.sessions) ≤ 64000 = omega (arith, all, count, few) in
      subst (λ (es : List SessionEnd). served_in es < 2 ^ 64) (sym h.told) (omega (arith, most))

  -- opening a listener does not change which connections wait
  pub opened_first : (clients : ℕ) (ends : List SessionEnd) (looks : ℕ) (waiting waiting₀ waiting' closed closed₀ closed' : Option (List (S × K))) → waiting ≡ waiting₀ → closed ≡ closed₀
      → HaveServed left reads held writes is_reply clients ends looks waiting waiting' closed closed' → HaveServed left reads held writes is_reply clients ends looks waiting₀ waiting' closed₀ closed'
  opened_first clients ends looks waiting waiting₀ waiting' closed closed₀ closed' same_waiting same_closed h =
      subst (λ (w : Option (List (S × K))). HaveServed left reads held writes is_reply clients ends looks w waiting' closed₀ closed') same_waiting
      (subst (λ (c : Option (List (S × K))). HaveServed left reads held writes is_reply clients ends looks waiting waiting' c closed') same_closed h)
