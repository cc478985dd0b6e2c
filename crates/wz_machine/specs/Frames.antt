-- How many frames (section 4.2.14 of the Core Specification) there are in terms, and how many locals they have in all.
use Rattle.std.specs.Prelude.{ℕ, ◌+◌, List, [], ◌∷◌, length}
use Rattle.wz_machine.specs.Terms.{Inside, Innermost, InLabel, InFrame, Term, Frame, BareValues, Standing, Runs, Waits}

abbrev pub frames_inside : Inside → ℕ
frames_inside (Innermost values code) = 0
frames_inside (InLabel below count again inside rest) = frames_inside inside
frames_inside (InFrame below count own inside rest) = 1 + frames_inside inside

abbrev pub frame_count : Term → ℕ
frame_count (Frame count locals inside) = 1 + frames_inside inside
frame_count (BareValues values) = 0

abbrev pub locals_inside : Inside → ℕ
locals_inside (Innermost values code) = 0
locals_inside (InLabel below count again inside rest) = locals_inside inside
locals_inside (InFrame below count own inside rest) = length own + locals_inside inside

abbrev pub local_count : Term → ℕ
local_count (Frame count locals inside) = length locals + locals_inside inside
local_count (BareValues values) = 0

-- ---- over all terms of a stack

abbrev pub term_of : Standing → Term
term_of (Runs term) = term
term_of (Waits question rest) = rest

abbrev pub frames_in_all : List Standing → ℕ
frames_in_all [] = 0
frames_in_all (standing ∷ below) = frame_count (term_of standing) + frames_in_all below

abbrev pub locals_in_all : List Standing → ℕ
locals_in_all [] = 0
locals_in_all (standing ∷ below) = local_count (term_of standing) + locals_in_all below
