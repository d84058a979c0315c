-- A line writes the name that is read from it, and no other.
use Rattle.std.specs.Prelude.{ℕ, ◌≡◌, ◌≢◌, ◌==◌, ◌↔◌, Bool, true, false, if◌then◌else◌, List, [], ◌∷◌, ◌++◌, Option, None, Some}
use Rattle.std.specs.Option.{option_map}
use Rattle.std.proofs.Common.{refl, ap, ◌∙◌, append_assoc, arith}
use Rattle.std.proofs.lemmas.List.{append-nil}
use Rattle.std.proofs.lemmas.Grind.{common_steps}
use Rattle.std.proofs.lemmas.Bool.{eqb-true, ne_eqb}
use Rattle.hol_spec.specs.Names.{Name, quote, dot, backslash, IsPlain, IsComponent, nothing, plain, escaped, AreComponents, one, dotted, IsNameLine}
use Rattle.hol_spec.specs.NameOf.{with_byte, name_from, escaped_name, closed_name, name_of}

-- the text behind the opening quote of a line that writes this name
record IsClosed (text : List ℕ) (name : Name) : Type 0 where
  inner : List ℕ
  is : text ≡ inner ++ quote ∷ []
  components : AreComponents inner name

with_plain : (b : ℕ) (inner : List ℕ) (name : Name) → IsPlain b → AreComponents inner name → AreComponents (b ∷ inner) (with_byte b name)
with_plain b inner name p (one h) = one (plain p h)
with_plain b inner name p (dotted h e more) = dotted (plain p h) (ap (λ xs. b ∷ xs) e) more

with_escaped : (b : ℕ) (inner : List ℕ) (name : Name) → AreComponents inner name → AreComponents (backslash ∷ b ∷ inner) (with_byte b name)
with_escaped b inner name (one h) = one (escaped h)
with_escaped b inner name (dotted h e more) = dotted (escaped h) (ap (λ xs. backslash ∷ b ∷ xs) e) more

-- a name that was read was made of one
option_map-some : {A B : Type 0} (f : A → B) (o : Option A) (y : B) → option_map f o ≡ Some y → (x : A) × (o ≡ Some x) × (f x ≡ y)
option_map-some f None y e = absurd (cc)
option_map-some f (Some x) y e = (x, refl, cc)

-- four cases by three tests
by_cases : {A : Type 0} (P : Type 0) (p q r : Bool) (a b c d x : A) → (if p then a else if q then b else if r then c else d) ≡ x
    → (p ≡ true → a ≡ x → P) → (q ≡ true → b ≡ x → P) → (r ≡ true → c ≡ x → P) → (p ≡ false → q ≡ false → r ≡ false → d ≡ x → P) → P
by_cases P true q r a b c d x e f g h k = f refl e
by_cases P false true r a b c d x e f g h k = g refl e
by_cases P false false true a b c d x e f g h k = h refl e
by_cases P false false false a b c d x e f g h k = k refl refl refl e

other_number : (a b : ℕ) → (a == b) ≡ false → a ≢ b
other_number a b e h = grind (arith, common_steps)

closed_end : (b : ℕ) (text : List ℕ) (name : Name) → b ≡ quote → closed_name text ≡ Some name → IsClosed (b ∷ text) name
closed_end b [] name e h = rw e (record { inner = []; is = refl; components = let n : [] ∷ [] ≡ name = cc in rw (← n) (one nothing) })
closed_end b (c ∷ text) name e h = absurd (cc)

closed_dot : (b : ℕ) (text : List ℕ) (rest name : Name) → b ≡ dot → [] ∷ rest ≡ name → IsClosed text rest → IsClosed (b ∷ text) name
closed_dot b text rest name e f c = rw (e, ← f) (record { inner = dot ∷ c.inner; is = ap (λ xs. dot ∷ xs) c.is; components = dotted nothing refl c.components })

closed_plain : (b : ℕ) (text : List ℕ) (rest name : Name) → IsPlain b → with_byte b rest ≡ name → IsClosed text rest → IsClosed (b ∷ text) name
closed_plain b text rest name p f c = rw (← f)
    (record { inner = b ∷ c.inner; is = ap (λ xs. b ∷ xs) c.is; components = with_plain b c.inner rest p c.components })

closed_escaped : (a b : ℕ) (text : List ℕ) (rest name : Name) → a ≡ backslash → with_byte b rest ≡ name → IsClosed text rest → IsClosed (a ∷ b ∷ text) name
closed_escaped a b text rest name e f c = rw (e, ← f)
    (record { inner = backslash ∷ b ∷ c.inner; is = ap (λ xs. backslash ∷ b ∷ xs) c.is; components = with_escaped b c.inner rest c.components })

mutual
  from-closed : (text : List ℕ) (name : Name) → name_from text ≡ Some name → IsClosed text name
  from-closed [] name e = absurd (cc)
  from-closed (b ∷ text) name e =
      by_cases (IsClosed (b ∷ text) name) (b == quote) (b == dot) (b == backslash) _ _ _ _ (Some name) e
      (λ t h. closed_end b text name (eqb-true b quote t) h)
      (λ t h. let m = option_map-some (λ n. [] ∷ n) (name_from text) name h in closed_dot b text m.0 name (eqb-true b dot t) m.2 (from-closed text m.0 m.1))
      (λ t h. escaped-closed b text name (eqb-true b backslash t) h)
      (λ q d s h. let m = option_map-some (with_byte b) (name_from text) name h in
      closed_plain b text m.0 name (record { no_quote = other_number b quote q; no_dot = other_number b dot d; no_backslash = other_number b backslash s }) m.2
      (from-closed text m.0 m.1))

  escaped-closed : (a : ℕ) (text : List ℕ) (name : Name) → a ≡ backslash → escaped_name text ≡ Some name → IsClosed (a ∷ text) name
  escaped-closed a [] name t e = absurd (cc)
  escaped-closed a (b ∷ text) name t e =
      let m = option_map-some (with_byte b) (name_from text) name e in closed_escaped a b text m.0 name t m.2 (from-closed text m.0 m.1)

-- the name with these bytes before its first component
onto : List ℕ → Name → Name
onto bytes [] = []
onto bytes (component ∷ name) = (bytes ++ component) ∷ name

onto-nil : (name : Name) → onto [] name ≡ name
unfolding onto
onto-nil [] = refl
onto-nil (component ∷ name) = refl

with_byte-onto : (b : ℕ) (bytes : List ℕ) (name : Name) → with_byte b (onto bytes name) ≡ onto (b ∷ bytes) name
unfolding onto
with_byte-onto b bytes [] = refl
with_byte-onto b bytes (component ∷ name) = refl

from-component : {text bytes : List ℕ} → IsComponent text bytes → (rest : List ℕ) (name : Name) → name_from rest ≡ Some name
    → name_from (text ++ rest) ≡ Some (onto bytes name)
from-component nothing rest name e = rw onto-nil e
from-component {text = b ∷ text} (plain {bytes = bytes} p h) rest name e =
    rw (ne_eqb b quote p.no_quote, ne_eqb b dot p.no_dot, ne_eqb b backslash p.no_backslash)
    (ap (option_map (with_byte b)) (from-component h rest name e) ∙ ap Some (with_byte-onto b bytes name))
from-component (escaped {b = b} {bytes = bytes} h) rest name e =
    ap (option_map (with_byte b)) (from-component h rest name e) ∙ ap Some (with_byte-onto b bytes name)

from-components : {inner : List ℕ} {name : Name} → AreComponents inner name → name_from (inner ++ quote ∷ []) ≡ Some name
unfolding onto
from-components (one {bytes = bytes} h) = from-component h (quote ∷ []) ([] ∷ []) refl ∙ ap (λ bs. Some (bs ∷ [])) (append-nil bytes)
from-components (dotted {text = text} {more = more} {bytes = bytes} {name = name} h e rest) =
    ap (λ xs. name_from (xs ++ quote ∷ [])) e ∙ ap name_from (append_assoc text (dot ∷ more) (quote ∷ []))
    ∙ from-component h (dot ∷ more ++ quote ∷ []) ([] ∷ name) (ap (option_map (λ n. [] ∷ n)) (from-components rest))
    ∙ ap (λ bs. Some (bs ∷ name)) (append-nil bytes)

if_source : (P : Type 0) (p : Bool) (o : Option Name) (name : Name) → (if p then o else None) ≡ Some name → (p ≡ true → o ≡ Some name → P) → P
if_source P true o name e f = f refl e
if_source P false o name e f = absurd (cc)

line_closed : (b : ℕ) (text : List ℕ) (name : Name) → b ≡ quote → IsClosed text name → IsNameLine (b ∷ text) name
line_closed b text name e c = rw e (record { inner = c.inner; quoted = ap (λ xs. quote ∷ xs) c.is; components = c.components })

name_line-of : (line : List ℕ) (name : Name) → name_of line ≡ Some name → IsNameLine line name
name_line-of [] name e = absurd (cc)
name_line-of (b ∷ text) name e =
    if_source (IsNameLine (b ∷ text) name) (b == quote) (name_from text) name e
    (λ t h. line_closed b text name (eqb-true b quote t) (from-closed text name h))

of-name_line : (line : List ℕ) (name : Name) → IsNameLine line name → name_of line ≡ Some name
of-name_line line name h = ap name_of h.quoted ∙ from-components h.components

-- the name read from a line is the name that it writes
pub name_of-IsNameLine : (line : List ℕ) (name : Name) → (name_of line ≡ Some name) ↔ IsNameLine line name
name_of-IsNameLine line name = (name_line-of line name, of-name_line line name)
