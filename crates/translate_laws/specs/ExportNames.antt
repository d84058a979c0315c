-- Laws of the names of exports and of short names: the tests tell them exactly.
use Rattle.std.proofs.Common.{◌≡◌, ℕ, Bool, true, false, ◌&&◌, List, [], ◌∷◌, ◌++◌, refl, ap, ◌∙◌}
use Rattle.std.specs.Prelude.{codes, nat_eq, Decides}
use Rattle.std.specs.Cmp.{unsigned_Decides}
use Rattle.lp_spec.specs.Numerals.{numeral, is_numeral}
use Rattle.lp_spec.specs.ShortNames.{IsShortName, is_short_name}
use Rattle.translate_spec.specs.Stands.{IsExportName, is_export_name}
use Rattle.translate_laws.specs.NumeralLaws.{is_numeral-numeral, is_numeral-Decides}

-- `E` and a number is the name of an export
pub export-named : (n : ℕ) → is_export_name (codes "E" ++ numeral n) ≡ true
export-named n = is_numeral-numeral n

-- the name of another theorem isn't
pub other-named : (text : List ℕ) → is_export_name (codes "T" ++ text) ≡ false
other-named text = refl

is_export_name-IsExportName : (name : List ℕ) → is_export_name name ≡ true → IsExportName name
is_export_name-IsExportName [] e = absurd (cc)
is_export_name-IsExportName (b ∷ text) e = go (nat_eq b 69) (unsigned_Decides b 69).0 e
  where
    go : (is_e : Bool) → (is_e ≡ true → b ≡ 69) → (is_e && is_numeral text) ≡ true → IsExportName (b ∷ text)
    go true f e = let written = (is_numeral-Decides text).0 e in record { number = written.number; is = λ i. f refl i ∷ written.is i }
    go false f e = absurd (cc)

pub is_export_name-Decides : (name : List ℕ) → Decides (is_export_name name) (IsExportName name)
is_export_name-Decides name = (is_export_name-IsExportName name, λ h. ap is_export_name h.is ∙ export-named h.number)

-- `X` and a number is a short name, and no other text is
is_short_name-IsShortName : (name : List ℕ) → is_short_name name ≡ true → IsShortName name
is_short_name-IsShortName [] e = absurd (cc)
is_short_name-IsShortName (b ∷ text) e = go (nat_eq b 88) (unsigned_Decides b 88).0 e
  where
    go : (is_x : Bool) → (is_x ≡ true → b ≡ 88) → (is_x && is_numeral text) ≡ true → IsShortName (b ∷ text)
    go true f e = let written = (is_numeral-Decides text).0 e in record { number = written.number; is = λ i. f refl i ∷ written.is i }
    go false f e = absurd (cc)

pub is_short_name-Decides : (name : List ℕ) → Decides (is_short_name name) (IsShortName name)
is_short_name-Decides name = (is_short_name-IsShortName name, λ h. ap is_short_name h.is ∙ is_numeral-numeral h.number)
