-- What items say, and how many say something.
use Rattle.std.proofs.Common.{◌≡◌, ℕ, suc, ◌+◌, List, [], ◌∷◌, ◌++◌, length, Option, None, Some, refl, ap, ◌∙◌, arith}
use Rattle.std.specs.Prelude.{slice_index_or}
use Rattle.std.specs.Option.{option_map}
use Rattle.std.specs.List.{cons_option}
use Rattle.std.proofs.lemmas.List.{length-append}
use Rattle.std.proofs.lemmas.List.Elements.{filter_map-append}
use Rattle.hol_spec.specs.Terms.{bound}
use Rattle.hol_spec.specs.Sequents.{Sequent}
use Rattle.hol_laws.specs.PlaceLaws.{get_or-seam}
use Rattle.translate_spec.specs.Items.{Content, operator, constant, defined_constant, type_operator, type_abstraction, type_representation, unproved, step, Item, says}
use Rattle.translate_spec.specs.MadeItems.{said_of, said_by, premise_at}
use Rattle.translate_spec.specs.Reach.{number_key, gives_of, renumbered_content}

-- what says a sequent gives its number
pub says-gives_of : (i : ℕ) (c : Content) (s : Sequent) → says c ≡ Some s → gives_of i c ≡ number_key i
says-gives_of i (operator n k) s e = absurd (cc)
says-gives_of i (constant n a) s e = absurd (cc)
says-gives_of i (defined_constant n a t) s e = absurd (cc)
says-gives_of i (type_operator names c u j one) s e = absurd (cc)
says-gives_of i (type_abstraction names c u j one) s e = absurd (cc)
says-gives_of i (type_representation names c u j one) s e = absurd (cc)
says-gives_of i (unproved r) s e = refl
says-gives_of i (step kind js premises given r) s e = refl

-- under other numbers it says the same
pub says-renumbered : (number : ℕ → ℕ) (c : Content) → says (renumbered_content number c) ≡ says c
says-renumbered number (operator n k) = refl
says-renumbered number (constant n a) = refl
says-renumbered number (defined_constant n a t) = refl
says-renumbered number (type_operator names c u j one) = refl
says-renumbered number (type_abstraction names c u j one) = refl
says-renumbered number (type_representation names c u j one) = refl
says-renumbered number (unproved s) = refl
says-renumbered number (step kind js premises given s) = refl

-- items and further ones say as many sequents as both together
pub length-said_by : (ps new : List Item) → length (said_by (ps ++ new)) ≡ length (said_by ps) + length (said_by new)
length-said_by ps new = ap length (filter_map-append said_of ps new) ∙ length-append (said_by ps) (said_by new)

-- one item says what its content does
pub said_by-one : (z : Item) (o : Option Sequent) → says z.content ≡ o → said_by (z ∷ []) ≡ cons_option (option_map (λ (t : Sequent). (z.symbol, t)) o) []
said_by-one z o e = ap (λ o. cons_option {X = ℕ × Sequent} (option_map (λ (t : Sequent). (z.symbol, t)) o) []) e

pub length-said_by_one : (z : Item) (s : Sequent) → says z.content ≡ Some s → length (said_by (z ∷ [])) ≡ 1
length-said_by_one z s e = ap length (said_by-one z (Some s) e)

-- with an item that says nothing there are as many, and with one that does one more
pub silent-length : (before : List Item) (z : Item) → says z.content ≡ None → length (said_by before) ≡ length (said_by (before ++ z ∷ []))
silent-length before z e = let n = length-said_by before (z ∷ []) in let m = ap length (said_by-one z None e) in omega (arith, n, m)

pub telling-length : (before : List Item) (z : Item) (s : Sequent) → says z.content ≡ Some s
    → suc (length (said_by before)) ≡ length (said_by (before ++ z ∷ []))
telling-length before z s e = let n = length-said_by before (z ∷ []) in let m = ap length (said_by-one z (Some s) e) in omega (arith, n, m)

-- what is said in a place has its item's number
pub premise_at-said : (items before zs : List Item) (z : Item) (s : Sequent) → items ≡ before ++ z ∷ zs → says z.content ≡ Some s
    → premise_at items (length (said_by before)) ≡ (z.symbol, s)
premise_at-said items before zs z s whole e =
    let none : ℕ × Sequent = (0, record { hypotheses = []; conclusion = bound 0 }) in
    ap (λ l. slice_index_or l (length (said_by before)) none)
    (ap said_by whole ∙ filter_map-append said_of before (z ∷ zs)
    ∙ ap (λ l. said_by before ++ l) (ap (λ o. cons_option {X = ℕ × Sequent} (option_map (λ (t : Sequent). (z.symbol, t)) o) (said_by zs)) e))
    ∙ get_or-seam (said_by before) (said_by zs) (z.symbol, s) none
