-- What is built of good parts is good, and an input that is taken is told.
use Rattle.std.proofs.Common.{◌≡◌, ℕ, suc, Bool, true, false, ◌||◌, cond, List, [], ◌∷◌, ◌++◌, map, Option, None, Some, refl, sym, ap, subst, ◌∙◌, option_map}
use Rattle.std.specs.Prelude.{is_some}
use Rattle.std.specs.List.{AllByRecursion, list_any}
use Rattle.hol_spec.specs.Names.{Name}
use Rattle.hol_spec.specs.Types.{HolType, types_of}
use Rattle.hol_spec.specs.Primitives.{function}
use Rattle.hol_spec.specs.Limits.{TermWithin}
use Rattle.hol_spec.specs.Terms.{Term, Variable, type_of, variable_eq}
use Rattle.hol_spec.specs.TermBinding.{close_at}
use Rattle.hol_spec.specs.Rules.{abstraction}
use Rattle.hol_laws.specs.TermTyping.{type_of-close, loose-typed}
use Rattle.hol_spec.specs.Symbols.{Symbol, operator_arity, is_taken_constant, is_input_operator, new_constant, new_operator}
use Rattle.hol_spec.specs.Proofs.{Made, symbols_of}
use Rattle.article_write_laws.specs.SymbolUses.{nil-append}
use Rattle.article_write_laws.specs.Opened.{opened-closed}
use Rattle.article_write_laws.specs.CloseBuilt.{close-built}
use Rattle.article_write_laws.specs.WritableDrafts.{TypesNamed, TermNamed}
use Rattle.article_write_laws.specs.Histories.{History}
use Rattle.article_write_laws.specs.Histories as histories
use Rattle.article_write_laws.specs.GoodStates.{IsGoodType, IsGoodVariable, IsGoodTerm}

pub all-named : (ts : List HolType) → AllByRecursion IsGoodType ts → TypesNamed (types_of ts)
all-named [] h = tt
all-named (t ∷ ts) h = (h.0.named, all-named ts h.1)

has-type : (t : Term) → is_some (type_of t) ≡ true → (a : HolType) × (type_of t ≡ Some a)
has-type t e = go (type_of t) e
  where
    go : (o : Option HolType) → is_some o ≡ true → (a : HolType) × (o ≡ Some a)
    go None e = absurd (cc)
    go (Some a) e = (a, refl)

pub app-good : (f x : Term) → IsGoodTerm f → IsGoodTerm x → is_some (type_of (Term.app f x)) ≡ true → TermWithin (Term.app f x)
    → IsGoodTerm (Term.app f x)
app-good f x h k typed limit =
    let whole = Term.app f x in
    let a = has-type whole typed in
    let within = subst TermWithin (sym (opened-closed 0 [] whole (loose-typed [] whole a.0 a.1))) limit in
    record { built = record { ty = a.0; typed = a.1; built = (within, (h.built.built, k.built.built)) }; named = (h.named, k.named) }

close-named : (d : ℕ) (v : Variable) (t : Term) → TermNamed t → TermNamed (close_at d v t)
close-named d v (Term.free n a) h = go (variable_eq (n, a) v)
  where
    go : (b : Bool) → TermNamed (cond b (Term.bound d) (Term.free n a))
    go true = tt
    go false = h
close-named d v (Term.bound k) h = tt
close-named d v (Term.constant n a) h = h
close-named d v (Term.app f x) h = (close-named d v f h.0, close-named d v x h.1)
close-named d v (Term.lam a b) h = (h.0, close-named (suc d) v b h.1)

pub abstraction-good : (v : Variable) (t : Term) → IsGoodVariable v → IsGoodTerm t → TermWithin (abstraction v t) → IsGoodTerm (abstraction v t)
abstraction-good v t h k limit =
    let whole = abstraction v t in
    let a = function v.1 k.built.ty in
    let typed : type_of whole ≡ Some a = type_of-close v t ∙ ap (option_map (function v.1)) k.built.typed in
    let within = subst TermWithin (sym (opened-closed 0 [] whole (loose-typed [] whole a typed))) limit in
    record { built = record { ty = a; typed = typed; built = (within, close-built [] [] v t k.built.built) }; named = (h.named.1, close-named 0 v t k.named) }

-- inputs that are taken
pub constant-history : (made : List Made) (ax ex : List ℕ) (n : Name) → History made ax ex
    → History (made ++ map Made.symbol (new_constant (symbols_of made) n)) ax ex
constant-history made ax ex n h = go (is_taken_constant (symbols_of made) n)
  where
    go : (b : Bool) → History (made ++ map Made.symbol (cond b [] (Symbol.input_constant n ∷ []))) ax ex
    go true = subst (λ m. History m ax ex) (sym (nil-append made)) h
    go false = histories.History.input (Symbol.input_constant n) h tt refl

pub operator-history : (made : List Made) (ax ex : List ℕ) (n : Name) (k : ℕ) → History made ax ex
    → History (made ++ map Made.symbol (new_operator (symbols_of made) n k)) ax ex
operator-history made ax ex n k h = go (is_some (operator_arity (symbols_of made) n) || list_any (is_input_operator n k) (symbols_of made))
  where
    go : (b : Bool) → History (made ++ map Made.symbol (cond b [] (Symbol.input_operator n k ∷ []))) ax ex
    go true = subst (λ m. History m ax ex) (sym (nil-append made)) h
    go false = histories.History.input (Symbol.input_operator n k) h tt refl
