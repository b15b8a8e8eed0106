-- The room to work in that a caller lends.
use Rattle.std.specs.Prelude.{◌≡◌}
use Rattle.probe_blobs.specs.declared.LentRooms.{LentRooms}

-- after the call they are the slices that were lent, whatever is in them
abbrev pub SameRooms : LentRooms → LentRooms → Type 0
SameRooms before after =
    (after.decoded.ghost_name ≡ before.decoded.ghost_name) × (after.scratch.ghost_name ≡ before.scratch.ghost_name)
    × (after.made.ghost_name ≡ before.made.ghost_name)
