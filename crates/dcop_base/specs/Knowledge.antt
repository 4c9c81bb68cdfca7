-- What an agent knows of a problem.
use Rattle.std.specs.Prelude.{ℕ, [], map, slice_index}
use Rattle.std.specs.List.{filter}
use Rattle.dcop_base.specs.Table.{has}
use Rattle.dcop_base.specs.Problem.{Dcop}
use Rattle.dcop_base.specs.Graph.{neighbours}
use Rattle.dcop_base.specs.declared.knowledge.Private.{Private}

-- what the agent of a variable knows without the costs: its size, its neighbours and their sizes, and no tables
abbrev pub acquaintance_of : Dcop → ℕ → Private
acquaintance_of p me = record {
  me = me;
  size = slice_index p.sizes me;
  neighbours = neighbours p me;
  neighbour_sizes = map (λ v. slice_index p.sizes v) (neighbours p me);
  tables = [];
}

-- what the agent of a variable knows: its size, its neighbours and their sizes, and the tables that name it, in order
abbrev pub private_of : Dcop → ℕ → Private
private_of p me = record {
  me = me;
  size = slice_index p.sizes me;
  neighbours = neighbours p me;
  neighbour_sizes = map (λ v. slice_index p.sizes v) (neighbours p me);
  tables = filter (λ t. has t.scope me) p.tables;
}
