-- What is written of an operator and its arguments, where one argument is next and others are behind it.
use Rattle.std.proofs.Common.{◌≡◌, ℕ, suc, ◌+◌, sym, ap, ◌∙◌, arith, true, false, List, ◌++◌, append_assoc, codes}
use Rattle.std.specs.Prelude.{if◌then◌else◌}
use Rattle.hol_spec.specs.Names.{Name}
use Rattle.hol_spec.specs.ClosedForm as form
use Rattle.decode_spec.specs.ClosedText.{name_text, is_function, type_text, types_text, function_text, operator_text}
use Rattle.sequent.specs.Closed.{first, others, firsts, behind, closed_types_of, no_type}
use Rattle.hol_text.specs.declared.walk.TypeWork.{TypeWork}
use Rattle.hol_text.specs.Works.{types_left_text}

-- texts one after another, however they are grouped
after_blank : (old new s t u w : List ℕ) → new ≡ old ++ s → new ++ (t ++ (u ++ w)) ≡ old ++ ((s ++ (t ++ u)) ++ w)
after_blank old new s t u w e = ap (λ x. x ++ (t ++ (u ++ w))) e ∙ simp append_assoc

with_arrow : (old new s t a u b w : List ℕ) → new ≡ old ++ s → new ++ (t ++ (a ++ (u ++ (b ++ w)))) ≡ old ++ ((s ++ (((t ++ a) ++ u) ++ b)) ++ w)
with_arrow old new s t a u b w e = ap (λ x. x ++ (t ++ (a ++ (u ++ (b ++ w))))) e ∙ simp append_assoc

with_name : (old one two three s n a t u b w : List ℕ) → one ≡ old ++ s → two ≡ one ++ n → three ≡ two ++ a → three ++ (t ++ (u ++ (b ++ w))) ≡ old
    ++ ((((((s ++ n) ++ a) ++ t) ++ u) ++ b) ++ w)
with_name old one two three s n a t u b w e f g =
    ap (λ x. x ++ (t ++ (u ++ (b ++ w)))) (g ∙ ap (λ x. x ++ a) (f ∙ ap (λ x. x ++ n) e)) ∙ simp append_assoc

module _ (k m : ℕ) (next : k ≡ m + 1) (ts : List form.ClosedType) (works : List TypeWork) where
  up : suc m ≡ k
  up = omega (arith, next)

  abbrev others_text : List ℕ
  others_text = types_text (closed_types_of (firsts no_type m (others ts)))

  abbrev left_text : List ℕ
  left_text = types_left_text works (behind m (others ts))

  -- types, each after a blank
  pub several_turn : (old new : List ℕ) → new ≡ old ++ codes " " → new ++ (type_text (first no_type ts) ++ (others_text ++ left_text)) ≡ old
      ++ (types_text (closed_types_of (firsts no_type k ts)) ++ types_left_text works (behind k ts))
  several_turn old new e =
      after_blank old new (codes " ") (type_text (first no_type ts)) others_text left_text e
      ∙ ap (λ j. old ++ (types_text (closed_types_of (firsts no_type j ts)) ++ types_left_text works (behind j ts))) up

  -- the type of functions
  pub function_turn : (n : Name) (old new : List ℕ) → is_function n (closed_types_of (firsts no_type k ts)) ≡ true → new ≡ old ++ codes "("
      → new ++ (type_text (first no_type ts) ++ (codes " ->" ++ (others_text ++ (codes ")" ++ left_text)))) ≡ old
      ++ (type_text (form.ClosedType.operator n (closed_types_of (firsts no_type k ts))) ++ types_left_text works (behind k ts))
  function_turn n old new is e =
      with_arrow old new (codes "(") (type_text (first no_type ts)) (codes " ->") others_text (codes ")") left_text e
      ∙ ap (λ j. old ++ ((codes "(" ++ (function_text (closed_types_of (firsts no_type j ts)) ++ codes ")")) ++ types_left_text works (behind j ts))) up
      ∙ ap (λ b. old
      ++ ((if b then codes "(" ++ (function_text (closed_types_of (firsts no_type k ts)) ++ codes ")") else operator_text n
      (closed_types_of (firsts no_type k ts))) ++ types_left_text works (behind k ts))) (sym is)

  -- another operator
  pub operator_turn : (n : Name) (old one two three : List ℕ) → is_function n (closed_types_of (firsts no_type k ts)) ≡ false → one ≡ old ++ codes "(" → two
      ≡ one ++ name_text n → three ≡ two ++ codes " "
      → three ++ (type_text (first no_type ts) ++ (others_text ++ (codes ")" ++ left_text))) ≡ old
      ++ (type_text (form.ClosedType.operator n (closed_types_of (firsts no_type k ts))) ++ types_left_text works (behind k ts))
  operator_turn n old one two three is e f g =
      with_name old one two three (codes "(") (name_text n) (codes " ") (type_text (first no_type ts)) others_text (codes ")") left_text e f g
      ∙ ap (λ j. old ++ (operator_text n (closed_types_of (firsts no_type j ts)) ++ types_left_text works (behind j ts))) up
      ∙ ap (λ b. old
      ++ ((if b then codes "(" ++ (function_text (closed_types_of (firsts no_type k ts)) ++ codes ")") else operator_text n
      (closed_types_of (firsts no_type k ts))) ++ types_left_text works (behind k ts))) (sym is)
