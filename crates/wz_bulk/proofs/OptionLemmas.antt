-- What a look-up found, where something is known that was read of it.
use Rattle.std.proofs.Common.{◌≡◌, Option, Some, None, option_map, refl}

pub found_of : {A B : Type 0} (view : A → B) (o : Option A) (y : B) → option_map view o ≡ Some y → (x : A) × (o ≡ Some x) × (view x ≡ y)
found_of view None y e = absurd (cc e)
found_of view (Some x) y e = (x, refl, cc e)
