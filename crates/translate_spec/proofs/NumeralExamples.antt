-- Numbers as names write them; and names that are, or aren't, those of exports.
use Rattle.std.proofs.Common.{◌≡◌, true, false, codes, refl}
use Rattle.lp_spec.specs.Numerals.{numeral}
use Rattle.translate_spec.specs.Stands.{is_export_name}

nought : numeral 0 ≡ codes "0"
unfolding numeral
nought = refl

four_digits : numeral 1060 ≡ codes "1060"
unfolding numeral
four_digits = refl

first_export : is_export_name (codes "E0") ≡ true
first_export = refl

eleventh_export : is_export_name (codes "E10") ≡ true
eleventh_export = refl

leading_zero : is_export_name (codes "E01") ≡ false
leading_zero = refl

two_noughts : is_export_name (codes "E00") ≡ false
two_noughts = refl

no_number : is_export_name (codes "E") ≡ false
no_number = refl

letter_after : is_export_name (codes "E1a") ≡ false
letter_after = refl

other_letter : is_export_name (codes "T1") ≡ false
other_letter = refl
