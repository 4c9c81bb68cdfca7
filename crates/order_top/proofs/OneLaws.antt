-- Words and an input have one reply.
use Rattle.std.proofs.Common.{◌≡◌, Result, Ok, Err, sym, ap, ap₂, subst, ◌∙◌}
use Rattle.dcop_base.specs.Whole.{IsProblem}
use Rattle.problem_text.specs.Canonical.{canonical}
use Rattle.problem_text.specs.Declarations.{Declared}
use Rattle.problem_text.specs.File.{TextFile}
use Rattle.problem_text.specs.Reading.{Fault}
use Rattle.problem_text.specs.Steps.{declared_by}
use Rattle.problem_order.proofs.NarrowLaws.{one_problem, one_file}
use Rattle.order_search.specs.Finding.{IsSearched, SearchedFilesAreOne}
use Rattle.answer_io.specs.Whole.{whole_read}
use Rattle.program_frame.proofs.OneLaws.{replies_one}
use Rattle.program_frame.specs.declared.reply.Reply.{Reply}
use Rattle.program_frame.specs.declared.reply.Reply.TheVariants.{Own, Refused}
use Rattle.order_top.specs.declared.words.Asked.{Asked}
use Rattle.order_top.specs.Answering.{IsOrdered, IsTextReply, order_program, OrderAnswersAreOne, OrderedFilesAreOne}

-- files that declare the same are the same, since their joints follow from the tables
one_declared : (f g : TextFile) → IsProblem f.problem → IsProblem g.problem → declared_by f ≡ declared_by g → f ≡ g
one_declared f g of_f of_g e =
    one_file f g (ap (λ (d : Declared). d.version) e) (ap (λ (d : Declared). d.goal) e) (ap (λ (d : Declared). d.names) e) (ap (λ (d : Declared). d.labels) e)
    (one_problem f.problem g.problem of_f of_g (ap (λ (d : Declared). d.sizes) e) (ap (λ (d : Declared). d.tables) e))

module _ (law : SearchedFilesAreOne) where
  pub files_one : OrderedFilesAreOne
  files_one asked d f g to_f to_g =
      law to_g.old f g asked.tries asked.seed
      (subst (λ (old : TextFile). IsSearched old asked.tries asked.seed f) (one_declared to_f.old to_g.old to_f.whole to_g.whole (to_f.declared ∙ sym to_g.declared)) to_f.searched) to_g.searched

  one_ordered : (asked : Asked) (d : Declared) (a b : Reply) → IsOrdered asked d a → IsOrdered asked d b → a ≡ b
  one_ordered asked d (Own text status) (Own other end) of_a of_b =
      ap₂ Own (of_a.0.2 ∙ ap canonical (files_one asked d of_a.0.0 of_b.0.0 of_a.0.1 of_b.0.1) ∙ sym of_b.0.2) (of_a.1 ∙ sym of_b.1)
  one_ordered asked d (Own text status) (Refused refusal) of_a of_b = absurd of_b
  one_ordered asked d (Refused refusal) b of_a of_b = absurd of_a

  one_text : (asked : Asked) (read : Result Declared Fault) (a b : Reply) → IsTextReply asked read a → IsTextReply asked read b → a ≡ b
  one_text asked (Ok d) a b of_a of_b = one_ordered asked d a b of_a of_b
  one_text asked (Err fault) a b of_a of_b = of_a ∙ sym of_b

  pub order_answers_one : OrderAnswersAreOne
  order_answers_one = replies_one order_program (λ asked bytes. one_text asked (whole_read bytes))
