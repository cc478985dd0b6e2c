-- One store more, and one number more.
use Rattle.std.proofs.Common.{◌≡◌, ℕ, suc, ◌+◌, List, ◌++◌, refl, ap, sym, ◌∙◌, add-one, append_assoc}
use Rattle.wz_gen.specs.Sample.{draw_at, sample_stores, sample_store, next_draw}

pub drawn_next : (number k draw : ℕ) → draw ≡ draw_at number k → next_draw draw ≡ draw_at number (k + 1)
unfolding draw_at
drawn_next number k draw drawn = rw add-one (ap (λ d. next_draw d) drawn)

pub stored_next : (number k draw : ℕ) (start out : List ℕ) → draw ≡ draw_at number k → out ≡ start ++ sample_stores number k
    → out ++ sample_store (next_draw draw) ≡ start ++ sample_stores number (k + 1)
unfolding draw_at sample_stores
stored_next number k draw start out drawn stored =
    rw (add-one, stored, drawn) (append_assoc start (sample_stores number k) (sample_store (next_draw (draw_at number k))))
