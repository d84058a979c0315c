-- The text of a module is that of its lines, one after another.
use Rattle.std.proofs.Common.{◌≡◌, ℕ, suc, zero, ◌+◌, ◌≤◌, refl, sym, ap, ◌∙◌, List, [], ◌∷◌, ◌++◌, append_assoc, length, take, drop, add-one, arith}
use Rattle.std.specs.Prelude.{slice_get, Option, None, Some}
use Rattle.std.proofs.lemmas.List.{append-nil, drop_all}
use Rattle.std.proofs.Math.Seq.{take-length}
use Rattle.lp_spec.specs.Modules.{Declaration}
use Rattle.lp_spec.specs.Text.{prelude, declaration_text, declarations_text, written}
use Rattle.lp_spec.specs.ShortNames.{shortened_declaration, shortened_after}
use Rattle.std.proofs.lemmas.Option.{same_Some}
use Rattle.dk_write.specs.Lines.{line_of, line_at, text_before}

-- without bounds there are no lines
declarations_text-none : (m ds : List Declaration) → declarations_text m ds [] ≡ []
declarations_text-none m [] = refl
declarations_text-none m (d ∷ ds) = refl

line_of-none : (m : List Declaration) (d : Option Declaration) → line_of m d None ≡ []
line_of-none m (Some d) = refl
line_of-none m None = refl

-- the lines from one on are that line and those after it
from_line : (m ds : List Declaration) (bs : List ℕ) (i : ℕ)
    → declarations_text m (drop i ds) (drop i bs) ≡ line_of m (slice_get ds i) (slice_get bs i) ++ declarations_text m (drop (suc i) ds) (drop (suc i) bs)
from_line m [] bs zero = refl
from_line m [] bs (suc i) = refl
from_line m (d ∷ ds) [] zero = sym (declarations_text-none m ds)
from_line m (d ∷ ds) [] (suc i) =
    declarations_text-none m (drop i ds)
    ∙ sym (ap (λ l. l ++ declarations_text m (drop (suc i) ds) []) (line_of-none m (slice_get ds i)) ∙ declarations_text-none m (drop (suc i) ds))
from_line m (d ∷ ds) (b ∷ bs) zero = refl
from_line m (d ∷ ds) (b ∷ bs) (suc i) = from_line m ds bs i

-- the lines as far as one are those before it and that line
up_to_line : (m ds : List Declaration) (bs : List ℕ) (i : ℕ)
    → declarations_text m (take (suc i) ds) (take (suc i) bs) ≡ declarations_text m (take i ds) (take i bs) ++ line_of m (slice_get ds i) (slice_get bs i)
up_to_line m [] bs zero = refl
up_to_line m [] bs (suc i) = refl
up_to_line m (d ∷ ds) [] zero = refl
up_to_line m (d ∷ ds) [] (suc i) = sym (line_of-none m (slice_get ds i))
up_to_line m (d ∷ ds) (b ∷ bs) zero = append-nil (declaration_text m d b)
up_to_line m (d ∷ ds) (b ∷ bs) (suc i) =
    ap (λ l. declaration_text m d b ++ l) (up_to_line m ds bs i)
    ∙ sym (append_assoc (declaration_text m d b) (declarations_text m (take i ds) (take i bs)) (line_of m (slice_get ds i) (slice_get bs i)))

-- as many declarations are written as there are, each after those before it
pub length-shortened : (before ds : List Declaration) → length (shortened_after before ds) ≡ length ds
length-shortened before [] = refl
length-shortened before (d ∷ ds) = omega (arith, length-shortened (before ++ d ∷ []) ds)

slice_get-shortened : (before ds : List Declaration) (i : ℕ) (d : Declaration) → slice_get ds i ≡ Some d
    → slice_get (shortened_after before ds) i ≡ Some (shortened_declaration (before ++ take i ds) d)
slice_get-shortened before [] i d e = absurd (cc)
slice_get-shortened before (x ∷ ds) zero d e = ap (λ y. Some (shortened_declaration before y)) (same_Some x d e) ∙ ap (λ l. Some (shortened_declaration l d))
    (sym (append-nil before))
slice_get-shortened before (x ∷ ds) (suc i) d e = slice_get-shortened (before ++ x ∷ []) ds i d e ∙ ap (λ l. Some (shortened_declaration l d))
    (append_assoc before (x ∷ []) (take i ds))

pub shortened-at : (m : List Declaration) (i : ℕ) (d : Declaration) → slice_get m i ≡ Some d
    → slice_get (shortened_after [] m) i ≡ Some (shortened_declaration (take i m) d)
shortened-at m i d e = slice_get-shortened [] m i d e

-- the lines of the declarations from one on
pub drop-line_at : (m : List Declaration) (bounds : List ℕ) (i : ℕ)
    → declarations_text m (drop i (shortened_after [] m)) (drop i bounds) ≡ line_at m bounds i
    ++ declarations_text m (drop (i + 1) (shortened_after [] m)) (drop (i + 1) bounds)
drop-line_at m bounds i = rw add-one (from_line m (shortened_after [] m) bounds i)

-- the text up to the next declaration has one line more
pub text_before-next : (m : List Declaration) (bounds : List ℕ) (i : ℕ) → text_before m bounds (i + 1) ≡ text_before m bounds i ++ line_at m bounds i
text_before-next m bounds i =
    ap (λ l. prelude ++ l) (rw add-one (up_to_line m (shortened_after [] m) bounds i))
    ∙ sym (append_assoc prelude (declarations_text m (take i (shortened_after [] m)) (take i bounds)) (line_at m bounds i))

-- the text up to the first declaration is the prelude
pub text_before-first : (m : List Declaration) (bounds : List ℕ) → text_before m bounds 0 ≡ prelude
text_before-first m bounds = append-nil prelude

-- the text up to the end is that of the module
pub text_before-end : (m : List Declaration) (bounds : List ℕ) (i : ℕ) → i ≡ length m → i ≡ length bounds → text_before m bounds i ≡ written m bounds
text_before-end m bounds i e f =
    ap (λ l. prelude ++ declarations_text m l (take i bounds))
    (ap (λ n. take n (shortened_after [] m)) (e ∙ sym (length-shortened [] m)) ∙ take-length (shortened_after [] m))
    ∙ ap (λ l. prelude ++ declarations_text m (shortened_after [] m) l) (ap (λ n. take n bounds) f ∙ take-length bounds)

-- from the end of the declarations on there is no line
pub drop-end : (m : List Declaration) (bounds : List ℕ) (i : ℕ) → length m ≤ i → declarations_text m (drop i (shortened_after [] m)) (drop i bounds) ≡ []
drop-end m bounds i h = ap (λ l. declarations_text m l (drop i bounds)) (drop_all i (shortened_after [] m) (omega (arith, h, length-shortened [] m)))

cut_lines : (m ds : List Declaration) (bs : List ℕ) (i : ℕ)
    → declarations_text m ds bs ≡ declarations_text m (take i ds) (take i bs) ++ declarations_text m (drop i ds) (drop i bs)
cut_lines m ds bs zero = refl
cut_lines m [] bs (suc i) = refl
cut_lines m (d ∷ ds) [] (suc i) = sym (declarations_text-none m (drop i ds))
cut_lines m (d ∷ ds) (b ∷ bs) (suc i) =
    ap (λ l. declaration_text m d b ++ l) (cut_lines m ds bs i)
    ∙ sym (append_assoc (declaration_text m d b) (declarations_text m (take i ds) (take i bs)) (declarations_text m (drop i ds) (drop i bs)))

-- the text of a module is the text up to a declaration and the lines from it on
pub written-text_before : (m : List Declaration) (bounds : List ℕ) (i : ℕ)
    → written m bounds ≡ text_before m bounds i ++ declarations_text m (drop i (shortened_after [] m)) (drop i bounds)
written-text_before m bounds i =
    ap (λ l. prelude ++ l) (cut_lines m (shortened_after [] m) bounds i)
    ∙ sym (append_assoc prelude (declarations_text m (take i (shortened_after [] m)) (take i bounds))
    (declarations_text m (drop i (shortened_after [] m)) (drop i bounds)))
