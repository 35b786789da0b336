-- One plan for all stripes: the lanes hold, of each stripe, what one and the same order of steps reads there. Assumes nothing.
use mathlib.Core.Path.{◌≡◌}
use mathlib.Core.Bool.{Bool}
use mathlib.Core.List.{List}
use Prim.Native.Nat.{ℕ, ◌<◌}
use Rattle.table.specs.Desk.{Desk}
use Rattle.walk.specs.Ends.{Ended}
use Rattle.walk.specs.Read.{present_of, read_by}
use Rattle.survivors.specs.Packets.{came_source, came_parity, stripe}
use Rattle.lanes.specs.Lanes.{known, LanesRead}

pub one_plan_reads_all : (D : Desk) (packets : List ℕ) (stripes count : ℕ) (whole : Bool) (lanes : List ℕ) → LanesRead D packets stripes count whole lanes
    → (e : Ended D count) × ((t : ℕ) → t < stripes
    → known D packets lanes t ≡ read_by D (came_parity D (stripe D packets t)) e.reached.run (present_of D (came_source D (stripe D packets t))))
one_plan_reads_all D packets stripes count whole lanes L = (L.ended, L.read)
