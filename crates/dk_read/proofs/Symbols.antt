-- The names of the signature's symbols.
use Rattle.std.proofs.Common.{inl, inr, ◌⊎◌, ◌≡◌, ℕ, zero, suc, ◌<◌, ◌+◌, refl, sym, ap, subst, ◌∙◌, Bool, true, false, List, [], ◌++◌, length, reverse, take, get_or, arith}
use Rattle.std.specs.Prelude.{if◌then◌else◌, replicate, slice_get, None, Some}
use Rattle.lp_term.specs.declared.LpId.{LpId}
use Rattle.std.specs.Option.{option_map_or}
use Rattle.std.specs.Str.{bytes_eq}
use Rattle.std.specs.Cmp.Lexicographic.{same_text}
use Rattle.std.proofs.lemmas.List.{take_more, length-take-le}
use Rattle.std.proofs.lemmas.Option.{slice_get-get_or}
use Rattle.lp_spec.specs.Trees.{SortType, Var}
use Rattle.lp_spec.specs.Modules.{Declaration, signature, symbol, symbol_name}
use Rattle.dk_read.specs.declared.terms.Meaning.{Meaning}
use Rattle.dk_read.specs.declared.terms.Meaning.TheVariants as meaning
use Rattle.dk_read.specs.Names.{Named, name_at, looked, bound, symbol_meaning, first_meaning, IsNameless, HasSymbols, Puts}
use Rattle.dk_read.specs.Names as naming
use Rattle.dk_laws.specs.ReadingOrder.{IsState}
use Rattle.lp_spec.specs.declared.form.Form.TheVariants.{Symbol}
use Rattle.lp_spec.specs.ModuleOrder.{IsModule}
use Rattle.holide_sig.specs.Modules.{IsHeld}
use Rattle.dk_read.specs.declared.terms.Head.TheVariants as head
use Rattle.dk_read.specs.declared.terms.State.TheVariants as state
use Rattle.dk_read.specs.declared.parser.Parser.{Parser}
use Rattle.dk_read.specs.States.{before, state_of, state_in, IsHeadKnown, IsStateKnown, AreOf, AreOfSymbols, IsSoundIn, IsReading}
use Rattle.dk_read.proofs.Named.{bytes_eq-symm}
use Rattle.dk_read.proofs.Bindings.{position_last}

pub nameless_keeps : (ns ms : List Named) (n : ℕ) → naming.Keeps ns ms → IsNameless ns n → IsNameless ms n
nameless_keeps ns ms n k h = (omega (arith, k.longer, h.0), k.stays n h.0 ∙ h.1)

module _ (k : ℕ) (few : k < length signature) where
  abbrev next : Declaration
  next = get_or signature k (symbol [] SortType)

  next_name : symbol_name [] k ≡ next.name
  next_name = ap (λ o. option_map_or (λ (d : Declaration). d.name) o []) (slice_get-get_or signature k (symbol [] SortType) few)

  one_more : (x : List ℕ) → bound (take (k + 1) signature) [] x
      ≡ first_meaning (bound (take k signature) [] x) (if bytes_eq next.name x then meaning.Symbol k else meaning.Nothing)
  one_more x =
      ap (λ l. bound l [] x) (take_more signature k (symbol [] SortType) few)
      ∙ position_last (λ d. bytes_eq d.name x) (take k signature) next
      ∙ ap (λ n. first_meaning (bound (take k signature) [] x) (if bytes_eq next.name x then meaning.Symbol n else meaning.Nothing))
      (length-take-le k signature (omega (arith, few)))

  first_put : (v : Meaning) (x : List ℕ) (name : List ℕ) (t : Bool) → bytes_eq x name ≡ t → (t ≡ true → v ≡ meaning.Nothing)
      → (if t then meaning.Symbol k else v) ≡ first_meaning v (if t then meaning.Symbol k else meaning.Nothing)
  first_put meaning.Nothing x name true e h = refl
  first_put (meaning.Symbol s) x name true e h = absurd (cc (h refl))
  first_put (meaning.Binder d) x name true e h = absurd (cc (h refl))
  first_put meaning.Nothing x name false e h = refl
  first_put (meaning.Symbol s) x name false e h = refl
  first_put (meaning.Binder d) x name false e h = refl

  first_not : (v : Meaning) (t : Bool) → (t ≡ true → v ≡ meaning.Nothing → ⊥) → v ≡ first_meaning v (if t then meaning.Symbol k else meaning.Nothing)
  first_not meaning.Nothing true h = absurd (h refl refl)
  first_not meaning.Nothing false h = refl
  first_not (meaning.Symbol s) t h = refl
  first_not (meaning.Binder d) t h = refl

  module _ (old new : List Named) (name : List ℕ) (is : name ≡ symbol_name [] k) where
    tested : (x : List ℕ) → bytes_eq next.name x ≡ bytes_eq x name
    tested x = bytes_eq-symm next.name x ∙ ap (bytes_eq x) (sym (is ∙ next_name))

    pub symbol_put : (ms : List Named) → ((x : List ℕ) → looked ms x ≡ looked old x) → looked ms name ≡ meaning.Nothing → Puts ms name (meaning.Symbol k) new
        → HasSymbols old k → HasSymbols new (k + 1)
    symbol_put ms same free puts h = record {
      each = λ x.
          puts.each x
          ∙ ap (λ (v : Meaning). if bytes_eq x name then meaning.Symbol k else v) (same x ∙ h.each x)
          ∙ first_put (bound (take k signature) [] x) x name (bytes_eq x name) refl
          (λ t. sym (h.each x) ∙ sym (same x) ∙ ap (looked ms) (same_text x name (sym t)) ∙ free)
          ∙ ap (λ (b : Bool). first_meaning (bound (take k signature) [] x) (if b then meaning.Symbol k else meaning.Nothing)) (sym (tested x))
          ∙ sym (one_more x);
    }

    pub symbol_stays : ((x : List ℕ) → looked new x ≡ looked old x) → (looked new name ≡ meaning.Nothing → ⊥) → HasSymbols old k → HasSymbols new (k + 1)
    symbol_stays same taken h = record {
      each = λ x.
          same x ∙ h.each x
          ∙ first_not (bound (take k signature) [] x) (bytes_eq x name)
          (λ t v. taken (ap (looked new) (sym (same_text x name (sym t))) ∙ same x ∙ h.each x ∙ v))
          ∙ ap (λ (b : Bool). first_meaning (bound (take k signature) [] x) (if b then meaning.Symbol k else meaning.Nothing)) (sym (tested x))
          ∙ sym (one_more x);
    }

pub not_free : (w v : Meaning) → ((x : ℕ) × (w ≡ meaning.Symbol x)) ⊎ ((x : ℕ) × (w ≡ meaning.Binder x)) → w ≡ v → v ≡ meaning.Nothing → ⊥
not_free w v (inl s) e f = absurd (cc (s.1, e, f))
not_free w v (inr s) e f = absurd (cc (s.1, e, f))

-- at no place a node is kept yet
no_node : (count n : ℕ) (id : LpId) → slice_get (replicate count None) n ≡ Some (Some id) → ⊥
no_node zero n id e = absurd (cc)
no_node (suc count) zero id e = absurd (cc)
no_node (suc count) (suc n) id e = no_node count n id e

-- a reading before the first token
pub first_reading : (p : Parser) → IsHeld p.module → IsModule (before p) → before p ≡ [] → IsNameless p.names p.nameless → HasSymbols p.names (length signature)
    → p.frames.items ≡ [] → p.atoms.variables.items ≡ [] → p.atoms.symbols.items ≡ replicate (length signature) None → p.binders ≡ 0 → p.head
    ≡ head.TypeOf Symbol p.nameless → p.state ≡ state.Between → IsReading p
first_reading p held is none nameless symbols frames variables names binders h s =
    let open_none : reverse p.frames.items ≡ [] = ap reverse frames in
    let known : IsStateKnown p p.state = subst (IsStateKnown p) (sym s) frames in
    let ordered : IsState (before p) (state_of p) = subst (λ x. IsState (before p) (state_in p x)) (sym s) tt in
    let base : IsSoundIn p.module p.names p.nameless p.atoms p.binders p.head [] = record {
      held = held;
      is_module = is;
      frames = tt;
      head = subst (IsHeadKnown p.module.table p.names) (sym h) nameless.0;
      meanings = λ x. symbols.each x ∙ ap (λ l. bound (signature ++ l) [] x) (sym none);
      empty = nameless;
      depth = binders;
      few = omega (arith, binders);
      atoms = (
        subst (AreOf Var p.module.table) (sym variables) (λ n id e. absurd (cc)),
        subst (AreOfSymbols p.module.table) (sym names) (λ n id e. absurd (no_node (length signature) n id e)),
      );
    } in
    record {
      ready = record { sound = subst (IsSoundIn p.module p.names p.nameless p.atoms p.binders p.head) (sym open_none) base; known = known };
      ordered =
          ordered;
    }
