-- Paths and connectedness in any graph, and in the graph of tables.
use Rattle.std.proofs.Common.{◌≡◌, ℕ, Bool, true, ◌&&◌, ◌||◌, List, [], ◌∷◌, ◌++◌, refl, sym, ◌∙◌, ap₂, subst}
use Rattle.std.proofs.lemmas.Bool.{or_left, or_right}
use Rattle.std.proofs.lemmas.List.Folds.{list_any-append}
use Rattle.dcop_base.specs.Table.{CostTable, has}
use Rattle.dcop_base.specs.Graph.{share_table, IsPath, AreConnected}

-- a path goes on by another
pub IsPath-append : (edge : ℕ → ℕ → Bool) (u : ℕ) (ws : List ℕ) (v : ℕ) (xs : List ℕ) (w : ℕ) → IsPath edge u ws v → IsPath edge v xs w → IsPath edge u (ws ++ xs) w
IsPath-append edge u [] v xs w there on = subst (λ (x : ℕ). IsPath edge x xs w) (sym there) on
IsPath-append edge u (y ∷ ws) v xs w there on = (there.0, IsPath-append edge y ws v xs w there.1 on)

-- each is connected with itself
pub AreConnected-refl : (edge : ℕ → ℕ → Bool) (u : ℕ) → AreConnected edge u u
AreConnected-refl edge u = ([], refl)

-- equal ones are connected
pub AreConnected-same : (edge : ℕ → ℕ → Bool) (u v : ℕ) → u ≡ v → AreConnected edge u v
AreConnected-same edge u v e = ([], e)

-- an edge connects
pub AreConnected-edge : (edge : ℕ → ℕ → Bool) (u v : ℕ) → edge u v ≡ true → AreConnected edge u v
AreConnected-edge edge u v e = (v ∷ [], (e, refl))

pub AreConnected-trans : (edge : ℕ → ℕ → Bool) (u v w : ℕ) → AreConnected edge u v → AreConnected edge v w → AreConnected edge u w
AreConnected-trans edge u v w there on = (there.0 ++ on.0, IsPath-append edge u there.0 v on.0 w there.1 on.1)

-- a path in one graph connects in another, where each edge of the one connects in the other
pub AreConnected-along : (edge other : ℕ → ℕ → Bool) → ((u v : ℕ) → edge u v ≡ true → AreConnected other u v) → (u : ℕ) (ws : List ℕ) (v : ℕ) → IsPath edge u ws v → AreConnected other u v
AreConnected-along edge other each u [] v path = ([], path)
AreConnected-along edge other each u (w ∷ ws) v path =
    AreConnected-trans other u w v (each u w path.0) (AreConnected-along edge other each w ws v path.1)

pub AreConnected-into : (edge other : ℕ → ℕ → Bool) → ((u v : ℕ) → edge u v ≡ true → AreConnected other u v) → (u v : ℕ) → AreConnected edge u v → AreConnected other u v
AreConnected-into edge other each u v c = AreConnected-along edge other each u c.0 v c.1

-- more edges keep a connection
pub AreConnected-more : (edge other : ℕ → ℕ → Bool) → ((u v : ℕ) → edge u v ≡ true → other u v ≡ true) → (u v : ℕ) → AreConnected edge u v → AreConnected other u v
AreConnected-more edge other each = AreConnected-into edge other (λ u v e. AreConnected-edge other u v (each u v e))

-- the way back along a path
pub AreConnected-back : (edge : ℕ → ℕ → Bool) → ((u v : ℕ) → edge u v ≡ true → edge v u ≡ true) → (u : ℕ) (ws : List ℕ) (v : ℕ) → IsPath edge u ws v → AreConnected edge v u
AreConnected-back edge both u [] v path = ([], sym path)
AreConnected-back edge both u (w ∷ ws) v path =
    AreConnected-trans edge v w u (AreConnected-back edge both w ws v path.1) (AreConnected-edge edge w u (both u w path.0))

pub AreConnected-sym : (edge : ℕ → ℕ → Bool) → ((u v : ℕ) → edge u v ≡ true → edge v u ≡ true) → (u v : ℕ) → AreConnected edge u v → AreConnected edge v u
AreConnected-sym edge both u v c = AreConnected-back edge both u c.0 v c.1

-- what is the same at both ends of each edge is the same along a path
pub same_along : (edge : ℕ → ℕ → Bool) (f : ℕ → ℕ) → ((u v : ℕ) → edge u v ≡ true → f u ≡ f v) → (u : ℕ) (ws : List ℕ) (v : ℕ) → IsPath edge u ws v → f u ≡ f v
same_along edge f each u [] v path = subst (λ (x : ℕ). f u ≡ f x) path refl
same_along edge f each u (w ∷ ws) v path = each u w path.0 ∙ same_along edge f each w ws v path.1

pub same_when_connected : (edge : ℕ → ℕ → Bool) (f : ℕ → ℕ) → ((u v : ℕ) → edge u v ≡ true → f u ≡ f v) → (u v : ℕ) → AreConnected edge u v → f u ≡ f v
same_when_connected edge f each u v c = same_along edge f each u c.0 v c.1

pub and_swap : (a b : Bool) → (a && b) ≡ (b && a)
and_swap Bool.true Bool.true = refl
and_swap Bool.true Bool.false = refl
and_swap Bool.false Bool.true = refl
and_swap Bool.false Bool.false = refl

pub share_table-swap : (tables : List CostTable) (u v : ℕ) → share_table tables u v ≡ share_table tables v u
share_table-swap [] u v = refl
share_table-swap (t ∷ ts) u v =
    ap₂ (λ (a : Bool) (b : Bool). a || b) (and_swap (has t.scope u) (has t.scope v)) (share_table-swap ts u v)

pub share_table-sym : (tables : List CostTable) (u v : ℕ) → share_table tables u v ≡ true → share_table tables v u ≡ true
share_table-sym tables u v h = share_table-swap tables v u ∙ h

-- more tables keep what the earlier ones share
pub share_table-earlier : (earlier later : List CostTable) (u v : ℕ) → share_table earlier u v ≡ true → share_table (earlier ++ later) u v ≡ true
share_table-earlier earlier later u v h =
    list_any-append (λ (t : CostTable). has t.scope u && has t.scope v) earlier later ∙ or_left (share_table earlier u v) (share_table later u v) h

pub share_table-later : (earlier later : List CostTable) (u v : ℕ) → share_table later u v ≡ true → share_table (earlier ++ later) u v ≡ true
share_table-later earlier later u v h =
    list_any-append (λ (t : CostTable). has t.scope u && has t.scope v) earlier later ∙ or_right (share_table earlier u v) (share_table later u v) h

-- more tables keep a connection
pub AreConnected-earlier : (earlier later : List CostTable) (u v : ℕ) → AreConnected (share_table earlier) u v → AreConnected (share_table (earlier ++ later)) u v
AreConnected-earlier earlier later =
    AreConnected-more (share_table earlier) (share_table (earlier ++ later)) (share_table-earlier earlier later)

pub AreConnected-tables_sym : (tables : List CostTable) (u v : ℕ) → AreConnected (share_table tables) u v → AreConnected (share_table tables) v u
AreConnected-tables_sym tables = AreConnected-sym (share_table tables) (share_table-sym tables)
