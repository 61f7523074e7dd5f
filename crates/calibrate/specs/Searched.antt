-- Demand 3: what is promised of every fit that passes the entry checks, whatever its answer (accepted, or 6 to 9). Definitions only.
-- docs/METHOD.md, 'What is promised of the minimum, and what is not'.
use Rattle.std.specs.Prelude.{◌≡◌, true, false, List, ◌≤◌, Float}
use Rattle.records.specs.declared.Counts.{Counts}
use Rattle.moves.specs.declared.Search.{Search}
use Rattle.moves.specs.Moves.{is_refused}
use Rattle.search.specs.Promised.{Promised}
use Rattle.search.specs.Run.{fit_cell, fit_face, fit_updates}
use Rattle.records.specs.declared.FitConfig.{FitConfig}
use Rattle.records.specs.declared.FitAnswer.{FitAnswer}
use Rattle.entry.specs.Entry.{range_of}
use Rattle.calibrate.specs.Fit.{scaled_for, limits_for, plan_for, a_max_for, search_for, active_from, slice_from}

-- ---- an accepted answer is made from what the search found

pub record FromFound (tau : Float) (c : FitConfig) (ks ws : List Float) (s : Search) (a : FitAnswer) : Type 0 where
  -- the search did not refuse, and its best point is on no edge of its pass's grid
  pub found : is_refused s ≡ false
  pub inside : s.found.on_edge ≡ false
  -- the objective is the chosen face's
  pub objective : a.objective ≡ s.found.cell.objective
  -- the active set: the face's constraints, and any other at its bound
  pub active : a.active ≡ active_from c (a_max_for c ws) s.found
  -- the slice: the face's x at the point (m, sigma) found
  pub slice : a.slice ≡ slice_from tau c (range_of ks) (a_max_for c ws) s.found

-- ---- the promise, of the answer a

pub record Searched (tau : Float) (c : FitConfig) (ks ws weights : List Float) (a : FitAnswer) : Type 0 where
  -- the six counts are those of the search as defined
  pub counts : a.counts ≡ (search_for c ks ws weights).counts
  -- which keeps to its bounds, with 1 or 64 faces and at most 3,438 updates in a cell, and no qualifying face that it tries has a smaller objective than the one it chooses: each sentence is a field of search/specs/Promised.antt
  pub search :
      Promised (fit_cell ks ws (scaled_for c weights) (limits_for c ws)) (fit_face ks ws (scaled_for c weights) (limits_for c ws)) (fit_updates ks ws (scaled_for c weights) (limits_for c ws)) 64 3438 (plan_for c ks)
      (search_for c ks ws weights)
  -- 6 where the search refuses, and only there
  pub refuses : is_refused (search_for c ks ws weights) ≡ true → a.number ≡ 6
  pub refused : a.number ≡ 6 → is_refused (search_for c ks ws weights) ≡ true
  -- an accepted answer is made from the face chosen
  pub accepted : a.number ≡ 0 → FromFound tau c ks ws (search_for c ks ws weights) a

-- ---- how large the counts of any answer are

-- at most 3,001 passes, 195,140,025 cells, 12,488,961,600 faces and 670,891,405,950 updates
pub record SizedCounts (n : Counts) : Type 0 where
  pub passes : n.passes ≤ 3001
  pub cells : n.cells ≤ 195_140_025
  pub faces : n.faces ≤ 12_488_961_600
  pub updates : n.updates ≤ 670_891_405_950

-- with the default settings at most 93 passes, 41,013 cells, 2,624,832 faces and 141,002,694 updates
pub record DefaultCounts (n : Counts) : Type 0 where
  pub passes : n.passes ≤ 93
  pub cells : n.cells ≤ 41_013
  pub faces : n.faces ≤ 2_624_832
  pub updates : n.updates ≤ 141_002_694
