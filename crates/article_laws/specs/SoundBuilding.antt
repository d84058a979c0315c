-- Types, variables and terms that are made of sound parts are sound, also where they take an input.
use Rattle.std.proofs.Common.{◌≡◌, List, [], ◌∷◌, ◌++◌, length, true, Option, None, Some, Ok, refl, sym, ap, subst, ◌∙◌, arith}
use Rattle.std.specs.Prelude.{is_some}
use Rattle.std.specs.Option.{option_map}
use Rattle.std.specs.List.{AllByRecursion}
use Rattle.hol_spec.specs.Names.{Name}
use Rattle.hol_spec.specs.Types.{HolType, types_of, count}
use Rattle.hol_spec.specs.Primitives.{function}
use Rattle.hol_spec.specs.Limits.{TypeWithin, TermWithin}
use Rattle.hol_spec.specs.Terms.{Term, Variable, type_of}
use Rattle.hol_laws.specs.TermTyping.{type_of-close}
use Rattle.hol_laws.specs.Members.{All-weaker}
use Rattle.hol_laws.specs.TypeLaws.{count-types_of}
use Rattle.hol_spec.specs.Symbols.{Symbol, generic_type, operator_arity, new_constant, new_operator}
use Rattle.hol_spec.specs.Taken.{OperatorTaken, TypeTaken, TypesTaken, TermTaken}
use Rattle.hol_spec.specs.Rules.{abstraction}
use Rattle.hol_spec.specs.Proofs.{Made, symbols_of}
use Rattle.hol_proof_laws.specs.TakenTerms.{close-taken}
use Rattle.hol_proof_laws.specs.SymbolGrowth.{type-more, types-more}
use Rattle.hol_proof_laws.specs.ProofLaws.{symbols_of-symbols}
use Rattle.article_spec.specs.State.{State}
use Rattle.article_spec.specs.Conditions.{arity_fits, generic_fits}
use Rattle.article_laws.specs.Moves.{with_operator, with_constant}
use Rattle.article_laws.specs.Soundness.{IsTermObject, sound_parts, HasSoundRun}
use Rattle.article_laws.specs.SoundInputs.{operator-new, constant-new, operator-used, constant-used}
use Rattle.article_laws.specs.SoundStates.{symbols-more}

variable-within : (n : Name) → TypeWithin (HolType.variable n)
variable-within n = record { size = omega arith; depth = omega arith }

pub type_variable-sound : (m : List Made) (n : Name) → (sound_parts m).type (HolType.variable n)
type_variable-sound m n = (tt {0}, variable-within n)

pub free-sound : (m : List Made) (v : Variable) → (sound_parts m).variable v → TermWithin (Term.free v.0 v.1) → IsTermObject m (Term.free v.0 v.1)
free-sound m v h within = record { typed = refl; taken = h.0; within = within }

pub app-sound : (m : List Made) (f x : Term) → IsTermObject m f → IsTermObject m x → is_some (type_of (Term.app f x)) ≡ true → TermWithin (Term.app f x)
    → IsTermObject m (Term.app f x)
app-sound m f x h k typed within = record { typed = typed; taken = (h.taken, k.taken); within = within }

some-map : (f : HolType → HolType) (o : Option HolType) → is_some o ≡ true → is_some (option_map f o) ≡ true
some-map f None e = absurd (cc)
some-map f (Some a) e = refl

pub abstraction-sound : (m : List Made) (v : Variable) (t : Term) → (sound_parts m).variable v → IsTermObject m t → TermWithin (abstraction v t)
    → IsTermObject m (abstraction v t)
abstraction-sound m v t h k within = record {
  typed = ap is_some (type_of-close v t) ∙ some-map (function v.1) (type_of t) k.typed;
  taken = (h.0, close-taken (symbols_of m) 0 v t k.taken);
  within = within;
}

all-types : (symbols : List Symbol) (ts : List HolType) → AllByRecursion (TypeTaken symbols) ts → TypesTaken symbols (types_of ts)
all-types symbols [] h = tt
all-types symbols (t ∷ ts) h = (h.0, all-types symbols ts h.1)

-- a type, and a constant, over the symbols with the input that it may take
pub operator-sound : (s : State) (n : Name) (ts : List HolType) (u : Unit {0}) → HasSoundRun s → AllByRecursion (sound_parts s.made).type ts
    → arity_fits (operator_arity (symbols_of s.made) n) (length ts) ≡ Ok u → TypeWithin (HolType.operator n (types_of ts))
    → HasSoundRun (with_operator s n (length ts)) × (sound_parts (with_operator s n (length ts)).made).type (HolType.operator n (types_of ts))
operator-sound s n ts u g h e within =
    let symbols = symbols_of s.made in
    let new = new_operator symbols n (length ts) in
    let operator : OperatorTaken (symbols ++ new) n (count (types_of ts)) =
    subst (OperatorTaken (symbols ++ new) n) (sym (count-types_of ts)) (operator-used symbols n (length ts) u e) in
    let types : TypesTaken (symbols ++ new) (types_of ts) =
    types-more symbols new (types_of ts) (all-types symbols ts (All-weaker (sound_parts s.made).type (TypeTaken symbols) (λ a b. b.0) ts h)) in (
      symbols-more s.made s.exports s.assumptions new g (operator-new s.made n (length ts)),
      (subst (λ xs. TypeTaken xs (HolType.operator n (types_of ts))) (sym (symbols_of-symbols s.made new)) (operator, types), within),
    )

pub constant-sound : (s : State) (n : Name) (a : HolType) (u : Unit {0}) → HasSoundRun s → (sound_parts s.made).type a
    → generic_fits (generic_type (symbols_of s.made) n) a ≡ Ok u → TermWithin (Term.constant n a)
    → HasSoundRun (with_constant s n) × IsTermObject (with_constant s n).made (Term.constant n a)
constant-sound s n a u g h e within =
    let symbols = symbols_of s.made in
    let new = new_constant symbols n in
    let both : TermTaken (symbols ++ new) (Term.constant n a) = (constant-used symbols n a u e, type-more symbols new a h.0) in (
      symbols-more s.made s.exports s.assumptions new g (constant-new s.made n),
      record { typed = refl; taken = subst (λ xs. TermTaken xs (Term.constant n a)) (sym (symbols_of-symbols s.made new)) both; within = within },
    )
