-- Bounds that are remembered.
use Rattle.std.specs.Prelude.{◌≡◌, ◌<◌, All, length}
use Rattle.seq_theory.specs.Problem.{Problem}
use Rattle.seq_theory.specs.Bound.{bound}
use Rattle.seq_huff.specs.Orders.{IsOrderOf}
use Rattle.seq_inst.specs.Members.{members}
use Rattle.seq_graph.specs.declared.memo.Remembered.{Remembered}
use Rattle.seq_graph.specs.declared.memo.BoundMemo.{BoundMemo}

-- what is remembered of the group is its bound
abbrev pub HasItsBound : Problem → Remembered → Type 0
HasItsBound p r = r.bound ≡ bound p (members r.group)

-- the order is the problem's, there are slots, and each group in them has its bound
pub record IsMemoOf (p : Problem) (m : BoundMemo) : Type 0 where
  pub order : IsOrderOf p m.order
  pub some : 0 < length m.slots.items
  pub bounds : All (HasItsBound p) m.slots.items
