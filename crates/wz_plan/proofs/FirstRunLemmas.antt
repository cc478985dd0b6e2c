-- The first run from a place on, put together from the zeros there and the bytes behind them.
use Rattle.std.proofs.Common.{ℕ, ◌+◌, ◌-◌, ◌<◌, ◌≤◌, ◌≡◌, List, length, drop, get_or, sym, ◌∙◌, ap, ⊎_elim, arith}
use Rattle.std.proofs.lemmas.Bool.{cases_lt}
use Rattle.std.proofs.lemmas.List.{get_or-drop, length-drop}
use Rattle.wz_plan.specs.Scanned.{IsFirstRun}

-- what stands at a place behind the front of a list
get_or-rest : (bytes : List ℕ) (from place : ℕ) → from ≤ place → get_or (drop from bytes) (place - from) 0 ≡ get_or bytes place 0
get_or-rest bytes from place h =
    let e : from + (place - from) ≡ place = omega arith in
    get_or-drop from bytes (place - from) 0 ∙ ap (λ n. get_or bytes n 0) e

pub first_run : (bytes rest behind : List ℕ) (from zeros len : ℕ)
    → rest ≡ drop from bytes → behind ≡ drop (from + zeros) bytes → from ≤ length bytes
    → zeros < length rest → (get_or rest zeros 0 ≡ 0 → ⊥) → ((k : ℕ) → k < zeros → get_or rest k 0 ≡ 0)
    → len ≤ length behind → ((k : ℕ) → k < len → get_or behind k 0 ≡ 0 → ⊥) → get_or behind len 0 ≡ 0
    → IsFirstRun bytes from record { at = from + zeros; len = len }
first_run bytes rest behind from zeros len front back in_bytes more here before inside nonzero ends =
    let rest_size : length rest ≡ length bytes - from = ap length front ∙ length-drop from bytes in
    let behind_size : length behind ≡ length bytes - (from + zeros) = ap length back ∙ length-drop (from + zeros) bytes in
    let at_rest = λ (place : ℕ) (h : from ≤ place). ap (λ (l : List ℕ). get_or l (place - from) 0) front ∙ get_or-rest bytes from place h in
    let at_behind = λ (place : ℕ) (h : from + zeros ≤ place). ap (λ (l : List ℕ). get_or l (place - (from + zeros)) 0) back ∙ get_or-rest bytes (from + zeros) place h in
    let start : from + zeros - from ≡ zeros = omega arith in
    let stop : from + zeros + len - (from + zeros) ≡ len = omega arith in
    let none : from + zeros - (from + zeros) ≡ 0 = omega arith in
    let first : get_or rest zeros 0 ≡ get_or behind 0 0 =
    ap (λ n. get_or rest n 0) (sym start) ∙ at_rest (from + zeros) (omega arith)
    ∙ sym (at_behind (from + zeros) (omega arith)) ∙ ap (λ n. get_or behind n 0) none in
    record {
      begins = omega arith;
      zero_before = λ place low high. sym (at_rest place low) ∙ before (place - from) (omega arith);
      not_empty = ⊎_elim (λ some. some)
          (λ empty. let e : 0 ≡ len = omega arith in absurd (here (first ∙ ap (λ n. get_or behind n 0) e ∙ ends)))
          (cases_lt 0 len);
      nonzero = λ place low high e. nonzero (place - (from + zeros)) (omega arith) (at_behind place low ∙ e);
      within = omega arith;
      ends = sym (at_behind (from + zeros + len) (omega arith)) ∙ ap (λ n. get_or behind n 0) stop ∙ ends;
    }
