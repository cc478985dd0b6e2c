-- What is told after an emptying and some writes.
use Rattle.std.proofs.Common.{◌≡◌, ℕ, ◌<◌, List, [], ◌∷◌, ◌++◌, length, refl, sym, ap, ◌∙◌, arith, append_assoc, append-nil}
use Rattle.std.specs.Prelude.{Bool, true, false, cond, Option, None, Some, unwrap_or}
use Rattle.std.specs.Option.{option_map}
use Rattle.std.specs.Io.KnownBytes.{append_known}
use Rattle.std.specs.Ordering.{nat_cmp, eq_by_cmp}
use Rattle.std.specs.Cmp.Lexicographic.{slice_cmp, nat_list_cmp_total}
use Rattle.std.specs.Cmp.{eq_by_cmp_equiv}
use Rattle.std.specs.FinMap.{get, insert, get-insert, same_map, slice_cmp-IsAntisymmetric, nat_cmp-IsAntisymmetric}
use Rattle.wz_io.specs.World.{Told, Name, Standard, File, Contents, with_empty_output, with_more_output, with_output}
use Rattle.wz_io.specs.Writing.{told_after_writes}

cond_twice : {A : Type 0} (t : Bool) (a b c : A) → cond t b (cond t a c) ≡ cond t b c
cond_twice true a b c = refl
cond_twice false a b c = refl

pub get-insert-same : (m : Contents) (p a : List ℕ) → get (insert m p a) p ≡ Some a
get-insert-same m p a =
    get-insert nat_list_cmp_total m p a p ∙ ap (λ t. cond t (Some a) (get m p)) ((eq_by_cmp_equiv nat_list_cmp_total).refl p)

pub insert-insert : (m : Contents) (p a b : List ℕ) → insert (insert m p a) p b ≡ insert m p b
insert-insert m p a b =
    same_map nat_list_cmp_total (slice_cmp-IsAntisymmetric nat_cmp-IsAntisymmetric) _ _ (λ q.
    get-insert nat_list_cmp_total (insert m p a) p b q
    ∙ ap (λ x. cond (eq_by_cmp (slice_cmp nat_cmp) q p) (Some b) x) (get-insert nat_list_cmp_total m p a q)
    ∙ cond_twice (eq_by_cmp (slice_cmp nat_cmp) q p) (Some a) (Some b) (get m q)
    ∙ sym (get-insert nat_list_cmp_total m p b q))

abbrev pub with_stdout : Told → Option (List ℕ) → Told
with_stdout t x = record t { stdout = x }

abbrev pub with_files : Told → Option Contents → Told
with_files t x = record t { files = x }

append_none : (x : Option (List ℕ)) → x ≡ append_known x []
append_none None = refl
append_none (Some x) = ap (λ (l : List ℕ). Some l) (sym (append-nil x))

append_twice : (x : Option (List ℕ)) (a b : List ℕ) → append_known (append_known x a) b ≡ append_known x (a ++ b)
append_twice None a b = refl
append_twice (Some x) a b = ap (λ (l : List ℕ). Some l) (append_assoc x a b)

-- more bytes behind those of a file that was just put there
insert-more : (m : Contents) (p a b : List ℕ) → insert (insert m p a) p (unwrap_or (get (insert m p a) p) [] ++ b) ≡ insert m p (a ++ b)
insert-more m p a b =
    ap (λ (o : Option (List ℕ)). insert (insert m p a) p (unwrap_or o [] ++ b)) (get-insert-same m p a) ∙ insert-insert m p a (a ++ b)

files_twice : (x : Option Contents) (p a b : List ℕ) →
    option_map (λ (m : Contents). insert m p (unwrap_or (get m p) [] ++ b)) (option_map (λ (m : Contents). insert m p a) x)
    ≡ option_map (λ (m : Contents). insert m p (a ++ b)) x
files_twice None p a b = refl
files_twice (Some m) p a b = ap (λ (n : Contents). Some n) (insert-more m p a b)

files_longer : (x : Option Contents) (p a b : List ℕ) →
    option_map (λ (m : Contents). insert m p (unwrap_or (get m p) [] ++ b)) (option_map (λ (m : Contents). insert m p (unwrap_or (get m p) [] ++ a)) x)
    ≡ option_map (λ (m : Contents). insert m p (unwrap_or (get m p) [] ++ (a ++ b))) x
files_longer None p a b = refl
files_longer (Some m) p a b =
    let there : List ℕ = unwrap_or (get m p) [] in
    ap (λ (n : Contents). Some n) (insert-more m p (there ++ a) b ∙ ap (λ (bytes : List ℕ). insert m p bytes) (append_assoc there a b))

-- an emptied output holds nothing yet
pub with_empty_output-with_output : (t : Told) (name : Name) → with_empty_output t name ≡ with_output t name []
with_empty_output-with_output t Standard = ap (with_stdout t) (append_none t.stdout)
with_empty_output-with_output t (File path) = refl

-- what is written to it comes behind what it holds
pub with_more_output-with_output : (t : Told) (name : Name) (a b : List ℕ) → with_more_output (with_output t name a) name b ≡ with_output t name (a ++ b)
with_more_output-with_output t Standard a b = ap (with_stdout t) (append_twice t.stdout a b)
with_more_output-with_output t (File path) a b = ap (with_files t) (files_twice t.files path a b)

-- two writes are one of both pieces
pub with_more_output-with_more_output : (t : Told) (name : Name) (a b : List ℕ) →
    with_more_output (with_more_output t name a) name b ≡ with_more_output t name (a ++ b)
with_more_output-with_more_output t Standard a b = ap (with_stdout t) (append_twice t.stdout a b)
with_more_output-with_more_output t (File path) a b = ap (with_files t) (files_longer t.files path a b)

-- any number of writes behind what an output holds
pub writes-with_output : (t : Told) (name : Name) (a b : List ℕ) → told_after_writes (with_output t name a) name b ≡ with_output t name (a ++ b)
writes-with_output t name a [] = ap (λ (bytes : List ℕ). with_output t name bytes) (sym (append-nil a))
writes-with_output t name a (b ∷ bs) = with_more_output-with_output t name a (b ∷ bs)

-- one more write, which isn't empty
pub writes-with_more_output : (t : Told) (name : Name) (a b : List ℕ) → 0 < length b →
    with_more_output (told_after_writes t name a) name b ≡ told_after_writes t name (a ++ b)
writes-with_more_output t name [] [] some = absurd (omega (arith, some))
writes-with_more_output t name [] (b ∷ bs) some = refl
writes-with_more_output t name (a ∷ rest) b some = with_more_output-with_more_output t name (a ∷ rest) b

pub writes-joined : (t : Told) (name : Name) (a b : List ℕ) →
    told_after_writes (told_after_writes t name a) name b ≡ told_after_writes t name (a ++ b)
writes-joined t name a [] = ap (told_after_writes t name) (sym (append-nil a))
writes-joined t name a (b ∷ bs) = writes-with_more_output t name a (b ∷ bs) (omega arith)
