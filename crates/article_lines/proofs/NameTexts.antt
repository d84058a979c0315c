-- The texts of lines by their parts.
use Rattle.std.proofs.Common.{◌≡◌, ℕ, zero, suc, ◌+◌, ◌<◌, ◌≤◌, Bool, true, false, cond, List, [], ◌∷◌, ◌++◌, take, drop, length, Some, slice_get, slice_index_or, get_or, Bor, refl, sym, ap, ◌∙◌, arith, append_assoc, decimal, pos}
use Rattle.std.proofs.lemmas.List.{append-nil}
use Rattle.std.specs.List.{flat_map}
use Rattle.hol_spec.specs.Names.{Name, quote, dot, backslash}
use Rattle.article_spec.specs.declared.commands.Item.{Item}
use Rattle.article_spec.specs.declared.commands.Item.TheVariants as item
use Rattle.article_spec.specs.Lines.{newline}
use Rattle.article_write_spec.specs.ItemTexts.{is_escaped, component_text, components_text, text_of}
use Rattle.article_lines.specs.Writing.{line, byte_text, behind_text, pieces_text, rest_text}

-- Parts one behind the other
module _ {A : Type 0} (f : A → List ℕ) where
  next-of : (xs : List A) (i : ℕ) (x : A) → slice_get xs i ≡ Some x → flat_map f (take (suc i) xs) ≡ flat_map f (take i xs) ++ f x
  next-of [] i x e = absurd (cc)
  next-of (y ∷ xs) zero x e = let same : y ≡ x = cc in ap (λ z. f z ++ []) same ∙ append-nil (f x)
  next-of (y ∷ xs) (suc i) x e = ap (λ l. f y ++ l) (next-of xs i x e) ∙ sym (append_assoc (f y) (flat_map f (take i xs)) (f x))

  parts-of : (xs : List A) (i : ℕ) (x : A) → slice_get xs i ≡ Some x → flat_map f xs ≡ flat_map f (take i xs) ++ (f x ++ flat_map f (drop (suc i) xs))
  parts-of [] i x e = absurd (cc)
  parts-of (y ∷ xs) zero x e = let same : y ≡ x = cc in ap (λ z. f z ++ flat_map f xs) same
  parts-of (y ∷ xs) (suc i) x e =
      ap (λ l. f y ++ l) (parts-of xs i x e) ∙ sym (append_assoc (f y) (flat_map f (take i xs)) (f x ++ flat_map f (drop (suc i) xs)))

-- Bytes
first-byte : (b : ℕ) (bytes : List ℕ) → component_text (b ∷ bytes) ≡ byte_text b ++ component_text bytes
first-byte b bytes = go (is_escaped b)
  where
    go : (e : Bool) → cond e (backslash ∷ b ∷ component_text bytes) (b ∷ component_text bytes) ≡ cond e (backslash ∷ b ∷ []) (b ∷ []) ++ component_text bytes
    go true = refl
    go false = refl

by-bytes : (bytes : List ℕ) → component_text bytes ≡ flat_map byte_text bytes
by-bytes [] = refl
by-bytes (b ∷ bytes) = first-byte b bytes ∙ ap (λ l. byte_text b ++ l) (by-bytes bytes)

byte-at : (bytes : List ℕ) (i : ℕ) → i < length bytes → slice_get bytes i ≡ Some (slice_index_or bytes i 0)
byte-at [] i h = absurd (omega (arith, h))
byte-at (b ∷ bytes) zero h = refl
byte-at (b ∷ bytes) (suc i) h = byte-at bytes i (omega (arith, h))

-- the byte at a place behind the text before it
pub next-byte : (bytes : List ℕ) (i : ℕ) → i < length bytes → component_text (take (i + 1) bytes) ≡ component_text (take i bytes)
    ++ byte_text (slice_index_or bytes i 0)
next-byte bytes i h =
    let b = slice_index_or bytes i 0 in
    let next : suc i ≡ i + 1 = omega arith in
    ap (λ k. component_text (take k bytes)) (sym next) ∙ by-bytes (take (suc i) bytes) ∙ next-of byte_text bytes i b (byte-at bytes i h)
    ∙ ap (λ l. l ++ byte_text b) (sym (by-bytes (take i bytes)))

pub byte-parts : (bytes : List ℕ) (i : ℕ) → i < length bytes → component_text bytes ≡ component_text (take i bytes)
    ++ (byte_text (slice_index_or bytes i 0) ++ flat_map byte_text (drop (suc i) bytes))
byte-parts bytes i h =
    let b = slice_index_or bytes i 0 in
    by-bytes bytes ∙ parts-of byte_text bytes i b (byte-at bytes i h)
    ∙ ap (λ l. l ++ (byte_text b ++ flat_map byte_text (drop (suc i) bytes))) (sym (by-bytes (take i bytes)))

-- Components
-- the component at a place behind the first
pub next-component : (name : Name) (i : ℕ) (component : List ℕ) → 1 ≤ i → slice_get name i ≡ Some component → rest_text (take (i + 1) name)
    ≡ rest_text (take i name) ++ behind_text component
next-component [] i component h e = absurd (cc)
next-component (c ∷ name) zero component h e = absurd (omega (arith, h))
next-component (c ∷ name) (suc i) component h e =
    let next : suc (suc i) ≡ suc i + 1 = omega arith in
    ap (λ k. rest_text (take k (c ∷ name))) (sym next) ∙ next-of behind_text name i component e

pub component-parts : (name : Name) (i : ℕ) (component : List ℕ) → 1 ≤ i → slice_get name i ≡ Some component → rest_text name ≡ rest_text (take i name)
    ++ (behind_text component ++ flat_map behind_text (drop i (drop 1 name)))
component-parts [] i component h e = absurd (cc)
component-parts (c ∷ name) zero component h e = absurd (omega (arith, h))
component-parts (c ∷ name) (suc i) component h e = parts-of behind_text name i component e

-- all of them
take-all : {A : Type 0} (xs : List A) (k : ℕ) → length xs ≤ k → take k xs ≡ xs
take-all [] zero l = refl
take-all [] (suc k) l = refl
take-all (x ∷ xs) zero l = absurd (omega (arith, l))
take-all (x ∷ xs) (suc k) l = ap (λ z. x ∷ z) (take-all xs k (omega (arith, l)))

pub all-bytes : (bytes : List ℕ) (i : ℕ) → length bytes ≤ i → component_text (take i bytes) ≡ component_text bytes
all-bytes bytes i h = ap component_text (take-all bytes i h)

pub all-components : (name : Name) (i : ℕ) → length name ≤ i → rest_text (take i name) ≡ rest_text name
all-components name i h = ap rest_text (take-all name i h)

pub number-parts : (k : ℕ) (digits : List ℕ) → digits ≡ decimal k → line (item.Number (pos k)) ≡ digits ++ newline ∷ []
number-parts k digits e = ap (λ l. l ++ newline ∷ []) (sym e)

behind-first : (c : List ℕ) (name : Name) → components_text (c ∷ name) ≡ component_text c ++ flat_map behind_text name
behind-first c [] = sym (append-nil (component_text c))
behind-first c (d ∷ name) = ap (λ l. component_text c ++ dot ∷ l) (behind-first d name)

-- one component more
pub next-components : (name : Name) (i : ℕ) (component : List ℕ) → 1 ≤ i → slice_get name i ≡ Some component → components_text (take (i + 1) name)
    ≡ components_text (take i name) ++ behind_text component
next-components [] i component h e = absurd (cc)
next-components (c ∷ name) zero component h e = absurd (omega (arith, h))
next-components (c ∷ name) (suc i) component h e =
    let next : suc (suc i) ≡ suc i + 1 = omega arith in
    ap (λ k. components_text (take k (c ∷ name))) (sym next) ∙ behind-first c (take (suc i) name)
    ∙ ap (λ l. component_text c ++ l) (next-of behind_text name i component e)
    ∙ sym (append_assoc (component_text c) (flat_map behind_text (take i name)) (behind_text component))
    ∙ ap (λ l. l ++ behind_text component) (sym (behind-first c (take i name)))

pub one-component : (name : Name) (component : List ℕ) → slice_get name 0 ≡ Some component → components_text (take 1 name) ≡ component_text component
one-component [] component e = absurd (cc)
one-component (c ∷ name) component e = let same : c ≡ component = cc in ap component_text same

pub all-of : (name : Name) (i : ℕ) → length name ≤ i → components_text (take i name) ≡ components_text name
all-of name i h = ap components_text (take-all name i h)

pub name-parts : (name : Name) (first : List ℕ) → slice_get name 0 ≡ Some first → line (item.Name name) ≡ (quote ∷ [])
    ++ (component_text first ++ (rest_text name ++ (quote ∷ newline ∷ [])))
name-parts [] first e = absurd (cc)
name-parts (c ∷ name) first e =
    let same : c ≡ first = cc in
    ap (λ l. quote ∷ ((l ++ quote ∷ []) ++ newline ∷ [])) (behind-first c name ∙ ap (λ z. component_text z ++ flat_map behind_text name) same)
    ∙ ap (λ l. quote ∷ l) (append_assoc (component_text first ++ flat_map behind_text name) (quote ∷ []) (newline ∷ [])
    ∙ append_assoc (component_text first) (flat_map behind_text name) (quote ∷ newline ∷ []))

piece-at : {A : Type 0} (xs : List A) (i : ℕ) (d : A) → i < length xs → slice_get xs i ≡ Some (get_or xs i d)
piece-at [] i d h = absurd (omega (arith, h))
piece-at (x ∷ xs) zero d h = refl
piece-at (x ∷ xs) (suc i) d h = piece-at xs i d (omega (arith, h))

pub next-piece : (pieces : List (Bor (List ℕ))) (i : ℕ) (d : Bor (List ℕ)) → i < length pieces → pieces_text (take (i + 1) pieces) ≡ pieces_text (take i pieces)
    ++ (get_or pieces i d).now
next-piece pieces i d h =
    let next : suc i ≡ i + 1 = omega arith in
    ap (λ k. pieces_text (take k pieces)) (sym next) ∙ next-of (λ p. p.now) pieces i (get_or pieces i d) (piece-at pieces i d h)

pub piece-parts : (pieces : List (Bor (List ℕ))) (i : ℕ) (d : Bor (List ℕ)) → i < length pieces
    → pieces_text pieces ≡ pieces_text (take i pieces) ++ ((get_or pieces i d).now ++ pieces_text (drop (suc i) pieces))
piece-parts pieces i d h = parts-of (λ p. p.now) pieces i (get_or pieces i d) (piece-at pieces i d h)

pub one-line : (i : Item) → text_of (i ∷ []) ≡ line i
one-line i = append-nil (line i)

pub two-lines : (i j : Item) → text_of (i ∷ j ∷ []) ≡ line i ++ line j
two-lines i j = ap (λ l. line i ++ l) (one-line j)
