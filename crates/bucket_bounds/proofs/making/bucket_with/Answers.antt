use Rattle.std.proofs.Common.{◌≡◌, true, ◌++◌, List, length, sym, ap, ap₂, subst, ◌∙◌}
use Rattle.std.specs.List.{All}
use Rattle.std.proofs.lemmas.List.Elements.{All-append}
use Rattle.dcop_base.specs.Table.{CostTable, has}
use Rattle.bucket_bounds.specs.Made.{IsItem}
use Rattle.bucket_bounds.specs.MiniBuckets.{IsSentOf}
use Rattle.bucket_bounds.specs.Parts.{AreGroupsJoined}
use Rattle.bucket_bounds.proofs.MiniLaws.{parts_items}
use Rattle.bucket_bounds.proofs.making.bucket_with.Goals as goal

pub sent_of-requires : goal.sent_of-requires
sent_of-requires c =
    let parts : List CostTable = c.in_ok-parts.parts.items in
    let are = subst (λ (ts : List CostTable). AreGroupsJoined c.args.sizes.now c.args.limit c.args.var ts parts) (ap₂ (λ (ts us : List CostTable). ts ++ us) c.as_slice.ensures c.as_slice-2.ensures) c.in_ok-parts.ensures.parts in
    let items = parts_items c.args.sizes.now c.args.limit c.args.var (c.args.tables ++ c.args.came) parts are c.args.var (All-append (IsItem c.args.sizes.now c.args.var) c.args.tables c.args.came c.requires.tables c.requires.came) in
    subst (λ (ts : List CostTable). All (λ t. has t.scope c.args.var ≡ true) ts) (sym c.as_slice-3.ensures.value) (λ k d lt. (items k d lt).1.names)

pub returns-clause-mini : goal.returns-clause-mini
returns-clause-mini c =
    let kept = c.in_ok-kept.kept in
    let parts : List CostTable = c.in_ok-parts.parts.items in
    record {
      within = c.requires.var;
      tables = c.requires.tables;
      parts = parts;
      parted = subst (λ (ts : List CostTable). AreGroupsJoined c.args.sizes.now c.args.limit c.args.var ts parts) (ap₂ (λ (ts us : List CostTable). ts ++ us) c.as_slice.ensures c.as_slice-2.ensures) c.in_ok-parts.ensures.parts;
      groups = c.len.ensures ∙ sym c.as_slice-3.ensures.len ∙ ap (λ (ts : List CostTable). length ts) c.as_slice-3.ensures.value;
      sent = subst (λ (ts : List CostTable). IsSentOf c.args.var c.args.room parts ts kept.fixed kept.replaced) (sym c.from_vec.ensures)
          (subst (λ (ts : List CostTable). IsSentOf c.args.var c.args.room ts kept.sent.items kept.fixed kept.replaced) c.as_slice-3.ensures.value c.in_ok-kept.ensures.sent);
    }
