-- Texts one after another, and lists by their parts.
use Rattle.std.proofs.Common.{◌≡◌, ℕ, zero, suc, ◌+◌, ◌<◌, ◌≤◌, refl, sym, ap, ◌∙◌, arith, List, [], ◌∷◌, ◌++◌, length, get_or, append_assoc, codes}
use Rattle.std.specs.Prelude.{drop, take, map, decimal}
use Rattle.std.proofs.Math.Path.{ap₂}
use Rattle.std.proofs.lemmas.List.{map_more, length-map, length-take, take_all}
use Rattle.hol_spec.specs.ClosedForm as form
use Rattle.decode_spec.specs.ClosedText.{separated, type_variable_texts, variable_texts, hypothesis_texts, term_text}
use Rattle.sequent.specs.declared.closed.ClosedTerm.{ClosedTerm}
use Rattle.sequent.specs.declared.closed.ClosedType.{ClosedType}
use Rattle.sequent.specs.Closed.{closed_type_view, closed_term_view}
use Rattle.hol_text.specs.Works.{variable_text, mark_at}

-- a list with a first item
pub first-item : {X : Type 0} (xs : List X) (x : X) → x ≡ get_or xs 0 x → 1 ≤ length xs → xs ≡ x ∷ drop 1 xs
first-item [] x e h = absurd (omega (arith, h))
first-item (y ∷ xs) x e h = ap (λ z. z ∷ xs) (sym e)

-- a list of no item
pub no-item : {X : Type 0} (xs : List X) → length xs < 1 → xs ≡ []
no-item [] h = refl
no-item (x ∷ xs) h = absurd (omega (arith, h))

-- one more text
separated-push : (mark : List ℕ) (xs : List (List ℕ)) (x : List ℕ) → separated mark (xs ++ x ∷ []) ≡ separated mark xs ++ (mark_at (length xs) mark ++ x)
separated-push mark [] x = refl
separated-push mark (y ∷ []) x = append_assoc y mark x
separated-push mark (y ∷ z ∷ xs) x = ap (λ t. (y ++ mark) ++ t) (separated-push mark (z ∷ xs) x) ∙ sym
    (append_assoc (y ++ mark) (separated mark (z ∷ xs)) (mark ++ x))

-- a text that is written after its mark
pub separated-more : (mark old one two three x : List ℕ) (xs : List (List ℕ)) (n : ℕ) → length xs ≡ n → one ≡ old ++ separated mark xs → two ≡ one
    ++ mark_at n mark → three ≡ two ++ x → three ≡ old ++ separated mark (xs ++ x ∷ [])
separated-more mark old one two three x xs n count e f g =
    g ∙ ap (λ t. t ++ x) (f ∙ ap₂ (λ t k. t ++ mark_at k mark) e (sym count))
    ∙ append_assoc (old ++ separated mark xs) (mark_at (length xs) mark) x
    ∙ append_assoc old (separated mark xs) (mark_at (length xs) mark ++ x)
    ∙ ap (λ t. old ++ t) (sym (separated-push mark xs x))

type_variable_texts-length : (i n : ℕ) → length (type_variable_texts i n) ≡ n
type_variable_texts-length i zero = refl
type_variable_texts-length i (suc n) = ap suc (type_variable_texts-length (suc i) n)

type_variable_texts-push : (i n k : ℕ) → k ≡ i + n → type_variable_texts i (suc n) ≡ type_variable_texts i n ++ (codes "a" ++ decimal k) ∷ []
type_variable_texts-push i zero k e = ap (λ j. (codes "a" ++ decimal j) ∷ []) (omega (arith, e))
type_variable_texts-push i (suc n) k e = ap (λ l. (codes "a" ++ decimal i) ∷ l) (type_variable_texts-push (suc i) n k (omega (arith, e)))

pub type_variables-more : (old one two three : List ℕ) (n m : ℕ) → m ≡ n + 1 → one ≡ old ++ separated (codes " ") (type_variable_texts 0 n) → two ≡ one
    ++ mark_at n (codes " ") → three ≡ two ++ (codes "a" ++ decimal n)
    → three ≡ old ++ separated (codes " ") (type_variable_texts 0 m)
type_variables-more old one two three n m next e f g =
    let up : suc n ≡ m = omega (arith, next) in
    separated-more (codes " ") old one two three (codes "a" ++ decimal n) (type_variable_texts 0 n) n (type_variable_texts-length 0 n) e f g
    ∙ ap (λ l. old ++ separated (codes " ") l) (sym (type_variable_texts-push 0 n n (omega arith)) ∙ ap (type_variable_texts 0) up)

variable_texts-length : (j : ℕ) (ts : List form.ClosedType) → length (variable_texts j ts) ≡ length ts
variable_texts-length j [] = refl
variable_texts-length j (t ∷ ts) = ap suc (variable_texts-length (suc j) ts)

variable_texts-push : (j : ℕ) (ts : List form.ClosedType) (t : form.ClosedType) (k : ℕ) → k ≡ j + length ts → variable_texts j (ts ++ t ∷ [])
    ≡ variable_texts j ts ++ variable_text k t ∷ []
variable_texts-push j [] t k e = ap (λ i. variable_text i t ∷ []) (omega (arith, e))
variable_texts-push j (s ∷ ts) t k e = ap (λ l. variable_text j s ∷ l) (variable_texts-push (suc j) ts t k (omega (arith, e)))

-- the first so many of some, and the next
shown_more : {X Y : Type 0} (f : X → Y) (xs : List X) (i : ℕ) (x : X) → x ≡ get_or xs i x → i < length xs → map f (take (i + 1) xs) ≡ map f (take i xs)
    ++ f x ∷ []
shown_more f xs i x e h = map_more f xs i x h ∙ ap (λ y. map f (take i xs) ++ f y ∷ []) (sym e)

shown-length : {X Y : Type 0} (f : X → Y) (xs : List X) (i : ℕ) → i < length xs → length (map f (take i xs)) ≡ i
shown-length f xs i h = length-map (take i xs) f ∙ omega (arith, h, length-take i xs)

pub variables-more : (old one two three : List ℕ) (types : List ClosedType) (i m : ℕ) (ty : ClosedType) → m ≡ i + 1 → ty ≡ get_or types i ty → i < length types
    → one ≡ old ++ separated (codes " ") (variable_texts 0 (map closed_type_view (take i types))) → two ≡ one ++ mark_at i (codes " ") → three ≡ two
    ++ variable_text i (closed_type_view ty)
    → three ≡ old ++ separated (codes " ") (variable_texts 0 (map closed_type_view (take m types)))
variables-more old one two three types i m ty next is h e f g =
    let front = map closed_type_view (take i types) in
    let count : length front ≡ i = shown-length closed_type_view types i h in
    separated-more (codes " ") old one two three (variable_text i (closed_type_view ty)) (variable_texts 0 front) i (variable_texts-length 0 front ∙ count) e f
    g
    ∙ ap (λ l. old ++ separated (codes " ") l) (
    sym (variable_texts-push 0 front (closed_type_view ty) i (omega (arith, count)))
    ∙ ap (variable_texts 0) (sym (shown_more closed_type_view types i ty is h) ∙ ap (λ k. map closed_type_view (take k types)) (sym next))
    )

hypothesis_texts-length : (hs : List form.ClosedTerm) → length (hypothesis_texts hs) ≡ length hs
hypothesis_texts-length [] = refl
hypothesis_texts-length (h ∷ hs) = ap suc (hypothesis_texts-length hs)

hypothesis_texts-push : (hs : List form.ClosedTerm) (h : form.ClosedTerm) → hypothesis_texts (hs ++ h ∷ []) ≡ hypothesis_texts hs ++ term_text h 0 ∷ []
hypothesis_texts-push [] h = refl
hypothesis_texts-push (g ∷ hs) h = ap (λ l. term_text g 0 ∷ l) (hypothesis_texts-push hs h)

pub hypotheses-more : (old one two three : List ℕ) (hyps : List ClosedTerm) (i m : ℕ) (hyp : ClosedTerm) → m ≡ i + 1 → hyp ≡ get_or hyps i hyp → i < length hyps
    → one ≡ old ++ separated (codes ", ") (hypothesis_texts (map closed_term_view (take i hyps))) → two ≡ one ++ mark_at i (codes ", ") → three ≡ two
    ++ term_text (closed_term_view hyp) 0
    → three ≡ old ++ separated (codes ", ") (hypothesis_texts (map closed_term_view (take m hyps)))
hypotheses-more old one two three hyps i m hyp next is h e f g =
    let front = map closed_term_view (take i hyps) in
    let count : length front ≡ i = shown-length closed_term_view hyps i h in
    separated-more (codes ", ") old one two three (term_text (closed_term_view hyp) 0) (hypothesis_texts front) i (hypothesis_texts-length front ∙ count) e f g
    ∙ ap (λ l. old ++ separated (codes ", ") l) (
    sym (hypothesis_texts-push front (closed_term_view hyp))
    ∙ ap hypothesis_texts (sym (shown_more closed_term_view hyps i hyp is h) ∙ ap (λ k. map closed_term_view (take k hyps)) (sym next))
    )

-- a list that was gone through
pub all_taken : {X : Type 0} (xs : List X) (i : ℕ) → length xs ≤ i → take i xs ≡ xs
all_taken xs i h = take_all i xs h
