-- Names by number, and what each means.
use Rattle.std.specs.Prelude.{◌≡◌, ℕ, zero, suc, ◌-◌, ◌<◌, ◌≤◌, Bool, if◌then◌else◌, IsFalse, List, [], ◌∷◌, length, take, Option, None, Some, position, refl}
use Rattle.std.specs.List.{list_any}
use Rattle.std.specs.Coded.{Coded, code_by, coded×, coded_list, coded_ℕ}
use Rattle.std.specs.Str.{bytes_eq}
use Rattle.lp_spec.specs.Trees.{Tree, Var}
use Rattle.lp_spec.specs.ShortNames.{named_tree}
use Rattle.lp_spec.specs.Modules.{Declaration, signature}
use Rattle.lp_spec.specs.Reading.{Scope}
use Rattle.dk_read.specs.declared.terms.Meaning.{Meaning}
use Rattle.dk_read.specs.declared.terms.Meaning.TheVariants as meaning

-- a name and what it means
abbrev pub Named : Type 0
Named = List ℕ × Meaning

-- each name with what it means
abbrev pub names_of : List (List ℕ) → List Meaning → List Named
names_of [] ms = []
names_of (x ∷ xs) [] = []
names_of (x ∷ xs) (m ∷ ms) = (x, m) ∷ names_of xs ms

-- the name of a number; the empty one for a number that no name has
abbrev pub name_at : List Named → ℕ → List ℕ
name_at [] n = []
name_at (e ∷ es) zero = e.0
name_at (e ∷ es) (suc n) = name_at es n

-- what a name means; nothing if it has no number
abbrev pub looked : List Named → List ℕ → Meaning
looked [] x = meaning.Nothing
looked (e ∷ es) x = if bytes_eq x e.0 then e.1 else looked es x

-- whether a name has a number
abbrev pub is_named : List Named → List ℕ → Bool
is_named es x = list_any (λ e. bytes_eq x e.0) es

-- no name has two numbers
abbrev pub AreDistinct : List Named → Type 0
AreDistinct [] = Unit {0}
AreDistinct (e ∷ es) = IsFalse (is_named es e.0) × AreDistinct es

-- each of these names has a meaning, and none stands twice
pub record AreNames (names : List (List ℕ)) (meanings : List Meaning) : Type 0 where
  pub each : length meanings ≡ length names
  pub distinct : AreDistinct (names_of names meanings)

-- every number keeps its name
pub record Keeps (old new : List Named) : Type 0 where
  pub longer : length old ≤ length new
  pub stays : (n : ℕ) → n < length old → name_at new n ≡ name_at old n

-- the name x has the meaning w, every other the one that it had
pub record Puts (old : List Named) (x : List ℕ) (w : Meaning) (new : List Named) : Type 0 where
  pub each : (y : List ℕ) → looked new y ≡ (if bytes_eq y x then w else looked old y)

-- the meaning of a name that is a symbol's, if it is one
abbrev pub symbol_meaning : Option ℕ → Meaning
symbol_meaning None = meaning.Nothing
symbol_meaning (Some s) = meaning.Symbol s

-- the first of two meanings, if it is one
abbrev pub first_meaning : Meaning → Meaning → Meaning
first_meaning meaning.Nothing w = w
first_meaning v w = v

-- what a name means after these declarations, inside these binders, the innermost first
abbrev pub bound : List Declaration → Scope → List ℕ → Meaning
bound ds [] x = symbol_meaning (position (λ d. bytes_eq d.name x) ds)
bound ds (b ∷ scope) x = if bytes_eq x b then meaning.Binder (length scope) else bound ds scope x

-- the number is the empty name's
abbrev pub IsNameless : List Named → ℕ → Type 0
IsNameless ns n = (n < length ns) × (name_at ns n ≡ [])

-- every name means what it does after the first k declarations of the signature
pub record HasSymbols (ns : List Named) (k : ℕ) : Type 0 where
  pub each : (x : List ℕ) → looked ns x ≡ bound (take k signature) [] x

-- the tree of a meaning after these declarations, inside so many binders, if it has one
abbrev pub meaning_tree : List Declaration → ℕ → Meaning → Option Tree
meaning_tree ds d meaning.Nothing = None
meaning_tree ds d (meaning.Symbol s) = Some (named_tree ds s)
meaning_tree ds d (meaning.Binder level) = Some (Var (d - level - 1))

abbrev meaning_code : Meaning → ℕ × ℕ
meaning_code meaning.Nothing = (0, 0)
meaning_code (meaning.Symbol s) = (1, s)
meaning_code (meaning.Binder level) = (2, level)

abbrev meaning_by : ℕ → ℕ → Meaning
meaning_by zero n = meaning.Nothing
meaning_by (suc zero) n = meaning.Symbol n
meaning_by (suc (suc m)) n = meaning.Binder n

pub meaning_by-code : (m : Meaning) → meaning_by (meaning_code m).0 (meaning_code m).1 ≡ m
meaning_by-code meaning.Nothing = refl
meaning_by-code (meaning.Symbol s) = refl
meaning_by-code (meaning.Binder level) = refl

-- a code of names, for a model whose value they are
abbrev pub coded_names : Coded (List Named)
coded_names = coded_list (coded× (coded_list coded_ℕ) (code_by (ℕ × ℕ) (coded× coded_ℕ coded_ℕ) meaning_code (λ p. meaning_by p.0 p.1) meaning_by-code))
