-- Numbers stored and loaded.
use Rattle.std.proofs.Common.{ℕ, zero, suc, ◌+◌, ◌*◌, ◌/◌, ◌%◌, ◌^◌, ◌<◌, ◌≡◌, [], ◌∷◌, refl, sym, ◌∙◌, ap, lit<, arith}
use Rattle.std.specs.List.{All}
use Rattle.std.proofs.Math.Nat.{pow-suc, one-le-pow}
use Rattle.std.proofs.Math.Arith.{mod-mul}
use Rattle.wz_linear.specs.Bytes.{number_of, bytes_of, part, written}
use Rattle.wz_linear.specs.Laws.{StoreIsFull, LoadsWhatWasStored, NumberOfBytes, BytesOfNumber, NumberOfZeros}
use Rattle.wz_linear.proofs.BytesLemmas.{length-bytes_of}
use Rattle.wz_linear.proofs.WriteLemmas.{reads_all_written}

octets_of : (width value : ℕ) → All (λ byte. byte < 256) (bytes_of width value)
unfolding bytes_of
octets_of zero value k d h = absurd (omega arith)
octets_of (suc width) value zero d h = omega arith
octets_of (suc width) value (suc k) d h = octets_of width (value / 256) k d (omega arith)

pub store_is_full : StoreIsFull
store_is_full width value = (length-bytes_of width value, octets_of width value)

mod_more : (value width : ℕ) → value % 256 ^ suc width ≡ value % 256 + 256 * (value / 256 % 256 ^ width)
mod_more value width = ap (λ n. value % n) (pow-suc 256 width) ∙ mod-mul value (one-le-pow width 256 (omega arith)) (lit< tt) ∙ omega arith

pub number_of_bytes : NumberOfBytes
unfolding number_of bytes_of
number_of_bytes zero value = omega arith
number_of_bytes (suc width) value = rw (number_of_bytes width (value / 256)) (sym (mod_more value width))

pub loads_what_was_stored : LoadsWhatWasStored
loads_what_was_stored memory at width value within =
    let size = length-bytes_of width value in
    ap (λ n. number_of (part (written memory at (bytes_of width value)) at n)) (sym size)
    ∙ ap number_of (reads_all_written memory at (bytes_of width value) (omega arith))
    ∙ number_of_bytes width value

pub bytes_of_number : BytesOfNumber
unfolding number_of bytes_of
bytes_of_number [] octets = refl
bytes_of_number (byte ∷ bytes) octets =
    let low : byte < 256 = octets 0 0 (omega arith) in
    let first : (byte + 256 * number_of bytes) % 256 ≡ byte = omega arith in
    let rest : (byte + 256 * number_of bytes) / 256 ≡ number_of bytes = omega arith in
    rw (first, rest, bytes_of_number bytes (λ k d h. octets (suc k) d (omega arith)))

pub number_of_zeros : NumberOfZeros
unfolding number_of
number_of_zeros zero = refl
number_of_zeros (suc count) = ap (λ n. 0 + 256 * n) (number_of_zeros count)
