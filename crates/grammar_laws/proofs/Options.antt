-- What an option that is there was made of.
use Rattle.std.proofs.Common.{◌≡◌, refl, Bool, true, false, cond, Option, Some, None, option_map, option_and_then}
use Rattle.plain_values.proofs.Common.{same_Some}

pub bind_some : {A B : Type 0} (f : A → Option B) (o : Option A) (b : B) → option_and_then f o ≡ Some b → (a : A) × (o ≡ Some a) × (f a ≡ Some b)
bind_some f None b e = cc
bind_some f (Some a) b e = (a, refl, e)

pub map_some : {A B : Type 0} (f : A → B) (o : Option A) (b : B) → option_map f o ≡ Some b → (a : A) × (o ≡ Some a) × (f a ≡ b)
map_some f None b e = cc
map_some f (Some a) b e = (a, refl, same_Some (f a) b e)

pub cond_some : {A : Type 0} (v : Bool) (o : Option A) (a : A) → cond v o None ≡ Some a → (v ≡ true) × (o ≡ Some a)
cond_some true o a e = (refl, e)
cond_some false o a e = cc

pub cond_none : {A : Type 0} (v : Bool) (o : Option A) (a : A) → cond v None o ≡ Some a → (v ≡ false) × (o ≡ Some a)
cond_none true o a e = cc
cond_none false o a e = (refl, e)

pub map_then : {A B : Type 0} {P : Type 0} (f : A → B) (o : Option A) (b : B) → option_map f o ≡ Some b → ((a : A) → o ≡ Some a → f a ≡ b → P) → P
map_then f None b e k = cc
map_then f (Some a) b e k = k a refl (same_Some (f a) b e)

pub cond_then : {A : Type 0} {P : Type 0} (v : Bool) (x y : Option A) (a : A) → cond v x y ≡ Some a → (v ≡ true → x ≡ Some a → P) → (v ≡ false → y ≡ Some a → P) → P
cond_then true x y a e f g = f refl e
cond_then false x y a e f g = g refl e
