-- Which answers are refusals.
use Rattle.std.specs.Prelude.{⊤}
use Rattle.solve_report.specs.declared.answer.Answer.{Answer}
use Rattle.solve_report.specs.declared.answer.Answer.TheVariants.{Report, Tree, Verdict, Replay, Drill, Upgraded, UpgradedWcsp, Edits}
use Rattle.solve_report.specs.declared.answer.Answer.TheVariants.{Link, LinkDiffers, LinkBytes}

-- an answer is a refusal, which is one line
abbrev pub IsRefusal : Answer → Type 0
IsRefusal (Report report file) = ⊥
IsRefusal (Tree deliveries nodes names) = ⊥
IsRefusal (Verdict verdict names) = ⊥
IsRefusal (Replay events agents names) = ⊥
IsRefusal (Drill summary) = ⊥
IsRefusal (Upgraded file) = ⊥
IsRefusal (UpgradedWcsp bar file) = ⊥
IsRefusal (Edits answers file) = ⊥
IsRefusal _ = ⊤

-- an answer is a refusal because of a link between nodes: there is no link, or it did not deliver
-- what was sent
abbrev pub IsLinkRefusal : Answer → Type 0
IsLinkRefusal Link = ⊤
IsLinkRefusal (LinkDiffers from to at sent taken names) = ⊤
IsLinkRefusal (LinkBytes round from_node to_node place sent taken) = ⊤
IsLinkRefusal _ = ⊥
