-- A text is demangled to the one name that has it.
use Rattle.std.proofs.Common.{◌≡◌, ℕ, ◌+◌, ◌<◌, List, [], ◌∷◌, Bool, true, false, cond, Option, Some, None, refl, sym, ap, subst, ◌∙◌, arith}
use Rattle.std.specs.Prelude.{◌*◌, ◌/◌, ◌%◌, nat_eq, not}
use Rattle.std.specs.Option.{option_map}
use Rattle.std.specs.List.{AllByRecursion}
use Rattle.std.specs.Char.{is_ascii_alphanumeric}
use Rattle.std.proofs.lemmas.Bool.Decides.{Decides-eqb}
use Rattle.std.proofs.lemmas.Bool.{not-true}
use Rattle.hol_spec.specs.Names.{Name}
use Rattle.hol_spec.specs.NameOf.{with_byte}
use Rattle.hol_spec.specs.Mangling.{underscore, hex_digit, mangled_before, mangled_more, mangled, AreBytes, IsName}
use Rattle.decode_spec.specs.Options.{bind, both, provided}
use Rattle.decode_laws.specs.OptionLaws.{bind-is, both-is, provided-is, some-injective}
use Rattle.decode_spec.specs.Demangled.{hex_value, other_byte, byte_of, demangled, escaped, two_digits}

-- digits and their values
hex_value-digit : (v : ℕ) → v < 16 → hex_value (hex_digit v) ≡ Some v
hex_value-digit v h = grind (arith, h)

hex_value-is : (c v : ℕ) → hex_value c ≡ Some v → (v < 16) × (hex_digit v ≡ c)
hex_value-is c v e = (grind (arith, e), grind (arith, e))

alphanumeric-byte : (b : ℕ) → is_ascii_alphanumeric b ≡ true → b < 256
alphanumeric-byte b h = grind (arith, h)

hex_digit-not_underscore : (v : ℕ) → v < 16 → nat_eq (hex_digit v) underscore ≡ false
hex_digit-not_underscore v h = grind (arith, h)

-- two digits write a byte, and which
record Writes (c e b : ℕ) : Type 0 where
  small : b < 256
  other : is_ascii_alphanumeric b ≡ false
  high : hex_digit (b / 16) ≡ c
  low : hex_digit (b % 16) ≡ e

byte_of-is : (c e b : ℕ) → byte_of c e ≡ Some b → Writes c e b
byte_of-is c e b is =
    let p = bind-is (both (λ h l. h * 16 + l) (hex_value c) (hex_value e)) other_byte b is in
    let q = both-is (λ h l. h * 16 + l) (hex_value c) (hex_value e) p.0 p.1 in
    let z = provided-is (not (is_ascii_alphanumeric p.0)) (Some p.0) b p.2 in
    let same : p.0 ≡ b = some-injective z.1 in
    let high = hex_value-is c q.0 q.2 in
    let low = hex_value-is e q.1 q.3 in
    let sum : b ≡ q.0 * 16 + q.1 = sym same ∙ q.4 in
    let a : b / 16 ≡ q.0 = omega (arith, sum, high.0, low.0) in
    let r : b % 16 ≡ q.1 = omega (arith, sum, high.0, low.0) in
    record {
      small = omega (arith, sum, high.0, low.0);
      other = ap is_ascii_alphanumeric (sym same) ∙ not-true (is_ascii_alphanumeric p.0) z.0;
      high = ap hex_digit a ∙ high.1;
      low = ap hex_digit r ∙ low.1;
    }

byte_of-digits : (b : ℕ) → b < 256 → is_ascii_alphanumeric b ≡ false → byte_of (hex_digit (b / 16)) (hex_digit (b % 16)) ≡ Some b
byte_of-digits b h e =
    let l : b / 16 < 16 = omega (arith, h) in
    let m : b % 16 < 16 = omega arith in
    let z : (b / 16) * 16 + b % 16 ≡ b = omega arith in
    ap (λ o. bind (both (λ h l. h * 16 + l) o (hex_value (hex_digit (b % 16)))) other_byte) (hex_value-digit (b / 16) l)
    ∙ ap (λ o. bind (both (λ h l. h * 16 + l) (Some (b / 16)) o) other_byte) (hex_value-digit (b % 16) m)
    ∙ ap other_byte z
    ∙ ap (λ t. provided (not t) (Some b)) e

-- what a text is demangled to has the text
pub record IsNamed (text : List ℕ) (name : Name) : Type 0 where
  pub is_name : IsName name
  pub has : mangled name ≡ text

named-with_byte : (b : ℕ) (text whole : List ℕ) (name : Name) → b < 256 → IsNamed text name
    → ((rest : List ℕ) (bytes : List ℕ) → mangled_before bytes rest ≡ text → mangled_before (b ∷ bytes) rest ≡ whole) → IsNamed whole (with_byte b name)
named-with_byte b text whole [] h p f = absurd p.is_name
named-with_byte b text whole (bytes ∷ name) h p f = record { is_name = ((h, p.is_name.0), p.is_name.1); has = f (mangled_more name) bytes p.has }

named-boundary : (text : List ℕ) (name : Name) → IsNamed text name → IsNamed (underscore ∷ underscore ∷ text) ([] ∷ name)
named-boundary text [] p = absurd p.is_name
named-boundary text (bytes ∷ name) p = record { is_name = (tt {0}, (p.is_name.0, p.is_name.1)); has = ap (λ l. underscore ∷ underscore ∷ l) p.has }

option_map-is : {A B : Type 0} (f : A → B) (o : Option A) (y : B) → option_map f o ≡ Some y → (x : A) × (o ≡ Some x) × (y ≡ f x)
option_map-is f None y e = absurd (cc)
option_map-is f (Some x) y e = (x, refl, sym (some-injective e))

plain-written : (b : ℕ) (bytes rest text : List ℕ) → is_ascii_alphanumeric b ≡ true → mangled_before bytes rest ≡ text
    → mangled_before (b ∷ bytes) rest ≡ b ∷ text
plain-written b bytes rest text f h = rw f (ap (λ l. b ∷ l) h)

other-written : (b : ℕ) (bytes rest text : List ℕ) (c e : ℕ) → Writes c e b → mangled_before bytes rest ≡ text
    → mangled_before (b ∷ bytes) rest ≡ underscore ∷ c ∷ e ∷ text
other-written b bytes rest text c e w h = rw w.other (λ i. underscore ∷ w.high i ∷ w.low i ∷ h i)

mutual
  pub demangled-is : (text : List ℕ) (name : Name) → demangled text ≡ Some name → IsNamed text name
  demangled-is [] name e = subst (IsNamed []) (some-injective e) (record { is_name = (tt {0}, tt {0}); has = refl })
  demangled-is (b ∷ text) name e = go (is_ascii_alphanumeric b) refl e (λ n p. demangled-is text n p) (λ n p. escaped-is text n p)
    where
      go : (t : Bool) → is_ascii_alphanumeric b ≡ t
          → cond t (option_map (with_byte b) (demangled text)) (provided (nat_eq b underscore) (escaped text)) ≡ Some name
          → ((n : Name) → demangled text ≡ Some n → IsNamed text n) → ((n : Name) → escaped text ≡ Some n → IsNamed (underscore ∷ text) n)
          → IsNamed (b ∷ text) name
      go true f e p q =
          let m = option_map-is (with_byte b) (demangled text) name e in
          subst (IsNamed (b ∷ text)) (sym m.2)
          (named-with_byte b text (b ∷ text) m.0 (alphanumeric-byte b f) (p m.0 m.1) (λ rest bytes h. plain-written b bytes rest text f h))
      go false f e p q =
          let m = provided-is (nat_eq b underscore) (escaped text) name e in
          subst (λ c. IsNamed (c ∷ text) name) (sym ((Decides-eqb b underscore).0 m.0)) (q name m.1)

  escaped-is : (text : List ℕ) (name : Name) → escaped text ≡ Some name → IsNamed (underscore ∷ text) name
  escaped-is [] name e = absurd (cc)
  escaped-is (c ∷ text) name e = go (nat_eq c underscore) refl e (λ n p. demangled-is text n p) (λ n p. two_digits-is text c n p)
    where
      go : (t : Bool) → nat_eq c underscore ≡ t → cond t (option_map (λ n. [] ∷ n) (demangled text)) (two_digits text c) ≡ Some name
          → ((n : Name) → demangled text ≡ Some n → IsNamed text n) → ((n : Name) → two_digits text c ≡ Some n → IsNamed (underscore ∷ c ∷ text) n)
          → IsNamed (underscore ∷ c ∷ text) name
      go true f e p q =
          let m = option_map-is (λ n. [] ∷ n) (demangled text) name e in
          subst (λ x. IsNamed (underscore ∷ x ∷ text) name) (sym ((Decides-eqb c underscore).0 f))
          (subst (IsNamed (underscore ∷ underscore ∷ text)) (sym m.2) (named-boundary text m.0 (p m.0 m.1)))
      go false f e p q = q name e

  two_digits-is : (text : List ℕ) (c : ℕ) (name : Name) → two_digits text c ≡ Some name → IsNamed (underscore ∷ c ∷ text) name
  two_digits-is [] c name e = absurd (cc)
  two_digits-is (d ∷ text) c name e =
      let m = both-is with_byte (byte_of c d) (demangled text) name e in
      let w = byte_of-is c d m.0 m.2 in
      subst (IsNamed (underscore ∷ c ∷ d ∷ text)) (sym m.4)
      (named-with_byte m.0 text (underscore ∷ c ∷ d ∷ text) m.1 w.small (demangled-is text m.1 m.3) (λ rest bytes h. other-written m.0 bytes rest text c d w h))

demangled-other : (b : ℕ) (text : List ℕ) (name : Name) → b < 256 → is_ascii_alphanumeric b ≡ false → demangled text ≡ Some name
    → demangled (underscore ∷ hex_digit (b / 16) ∷ hex_digit (b % 16) ∷ text) ≡ Some (with_byte b name)
demangled-other b text name l f h =
    let m : b / 16 < 16 = omega (arith, l) in
    ap (λ t. cond t (option_map (λ n. [] ∷ n) (demangled (hex_digit (b % 16) ∷ text))) (two_digits (hex_digit (b % 16) ∷ text) (hex_digit (b / 16))))
    (hex_digit-not_underscore (b / 16) m)
    ∙ ap (λ o. both with_byte o (demangled text)) (byte_of-digits b l f)
    ∙ ap (both with_byte (Some b)) h

demangled-bytes : (bs : List ℕ) (name : Name) (rest : List ℕ) → AreBytes bs → demangled rest ≡ Some ([] ∷ name)
    → demangled (mangled_before bs rest) ≡ Some (bs ∷ name)
demangled-bytes [] name rest h e = e
demangled-bytes (b ∷ bs) name rest h e = go (is_ascii_alphanumeric b) refl (demangled-bytes bs name rest h.1 e)
  where
    go : (t : Bool) → is_ascii_alphanumeric b ≡ t → demangled (mangled_before bs rest) ≡ Some (bs ∷ name)
        → demangled (mangled_before (b ∷ bs) rest) ≡ Some ((b ∷ bs) ∷ name)
    go true f k =
        ap demangled (plain-written b bs rest (mangled_before bs rest) f refl)
        ∙ ap (λ t. cond t (option_map (with_byte b) (demangled (mangled_before bs rest))) (provided (nat_eq b underscore) (escaped (mangled_before bs rest)))) f
        ∙ ap (option_map (with_byte b)) k
    go false f k =
        ap demangled
        (other-written b bs rest (mangled_before bs rest) (hex_digit (b / 16)) (hex_digit (b % 16))
        (record { small = h.0; other = f; high = refl; low = refl }) refl)
        ∙ demangled-other b (mangled_before bs rest) (bs ∷ name) h.0 f k

demangled-more : (name : Name) → AllByRecursion AreBytes name → demangled (mangled_more name) ≡ Some ([] ∷ name)
demangled-more [] h = refl
demangled-more (bytes ∷ name) h = ap (option_map (λ n. [] ∷ n)) (demangled-bytes bytes name (mangled_more name) h.0 (demangled-more name h.1))

pub demangled-mangled : (name : Name) → IsName name → demangled (mangled name) ≡ Some name
demangled-mangled [] h = absurd h
demangled-mangled (bytes ∷ name) h = demangled-bytes bytes name (mangled_more name) h.0 (demangled-more name h.1)
