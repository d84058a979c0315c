-- Which names are primitive or defined, by how they are taken.
use Rattle.std.proofs.Common.{◌≡◌, refl, Bool, true, false, Option, None, Some}
use Rattle.std.specs.Prelude.{is_some}
use Rattle.std.specs.Option.{option_or}
use Rattle.hol_defs.specs.Kinds.{first_kind}
use Rattle.stack_machine.specs.Making.{is_own_kind}

-- what is primitive, or else defined, is the one or the other
pub is_own-first_kind : {A : Type 0} (primitive defined : Option A) (input : Bool) → is_own_kind (first_kind (is_some primitive) (is_some defined) input)
    ≡ is_some (option_or primitive defined)
is_own-first_kind (Some x) defined input = refl
is_own-first_kind None (Some y) input = refl
is_own-first_kind None None true = refl
is_own-first_kind None None false = refl

-- what isn't there is none
pub not-some : {A : Type 0} (o : Option A) → is_some o ≡ false → o ≡ None
not-some None e = refl
not-some (Some x) e = absurd (cc)
