-- A file beside its text.
use Rattle.std.proofs.Common.{◌≡◌, ℕ, List, Result, Ok, ap, subst}
use Rattle.dcop_base.specs.Whole.{IsProblem}
use Rattle.wcsp_text.specs.declared.fault.Fault.{Fault}
use Rattle.wcsp_text.specs.declared.reader.ReadWcsp.{ReadWcsp}
use Rattle.wcsp_text.specs.Networks.{Network}
use Rattle.wcsp_text.specs.Texts.{text_read}
use Rattle.wcsp_text.specs.Files.{IsOf, HasValues}
use Rattle.wcsp_text.proofs.ValueLaws.{valued, least}

same-network : (used : ℕ) (v w : Network) (o : Result (Network × ℕ) Fault) → o ≡ Ok (v, used) → o ≡ Ok (w, used) → v ≡ w
same-network used v w o e f =
    let pair : ◌≡◌ {A = Network × ℕ} (v, used) (w, used) = cc in
    ap (λ (p : Network × ℕ). p.0) pair

-- what is read has the values of the network that the text tells
pub has-values : (bytes : List ℕ) (r : ReadWcsp) (w : Network) → text_read bytes ≡ Ok (w, r.used) → IsOf w r → IsProblem r.file.problem → HasValues bytes r
has-values bytes r w e of whole v told =
    let same : w ≡ v = same-network r.used w v (text_read bytes) e told in
    let here : IsOf v r = subst (λ (w : Network). IsOf w r) same of in
    let value = valued v r.file.problem r.bar whole here.tables here.bar in
    (value, least v r.file.problem r.bar here.bar value)
