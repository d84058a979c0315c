-- What is written of a term under binders builds the term with the binders' variables in place of its loose numbers.
use Rattle.std.proofs.Common.{◌≡◌, ℕ, zero, suc, ◌+◌, ◌<◌, ◌^◌, ◌==◌, Bool, true, false, List, [], ◌∷◌, ◌++◌, map, length, Option, None, Some, slice_get, option_map, Ok, refl, sym, ap, subst, ◌∙◌, arith}
use Rattle.std.specs.Prelude.{is_some}
use Rattle.std.specs.List.{AllByRecursion}
use Rattle.std.proofs.lemmas.Bool.Decides.{nat_tests}
use Rattle.hol_spec.specs.Types.{HolType}
use Rattle.hol_spec.specs.Primitives.{function}
use Rattle.hol_spec.specs.Limits.{TypeWithin, TermWithin, term_depth}
use Rattle.hol_spec.specs.Terms.{Term, free, bound, constant, app, lam, Variable, type_under, type_of, application_type}
use Rattle.hol_spec.specs.TermBinding.{loose}
use Rattle.hol_laws.specs.TermTyping.{loose-typed}
use Rattle.hol_spec.specs.Rules.{abstraction}
use Rattle.hol_spec.specs.Symbols.{generic_type, new_constant}
use Rattle.hol_spec.specs.Proofs.{Made, symbols_of}
use Rattle.article_spec.specs.declared.commands.Item.TheVariants as item
use Rattle.article_spec.specs.declared.commands.Word.TheVariants as word
use Rattle.article_spec.specs.State.{Object}
use Rattle.article_spec.specs.Conditions.{generic_fits, term_in_limits}
use Rattle.article_spec.specs.Building.{const_term, app_term, abs_term, var_term}
use Rattle.article_trial_laws.specs.TrialSteps.{Dictionary}
use Rattle.article_write_spec.specs.Drafts.{Kept, Draft, say_name, say_word, once}
use Rattle.article_write_spec.specs.WrittenTypes.{write_type, write_variable}
use Rattle.article_write_spec.specs.WrittenTerms.{binder_at, next_binder, once_closed, shared, write_under, write_term}
use Rattle.article_write_laws.specs.SymbolUses.{TypeUses, TermUses, constant-fits, constant-new}
use Rattle.article_write_laws.specs.Opened.{opened, opened-closed, close-opened, type-opened, binders, length-binders, types-binders, opened-within, binders-apart}
use Rattle.article_write_laws.specs.Built.{IsBuilt, HasNoBinderName, binder-fresh}
use Rattle.article_write_laws.specs.Scenes.{Scene, body_state, Ready, Wrote, wrote-none, wrote-then, wrote-said, wrote-taking, wrote-once}
use Rattle.article_write_laws.specs.Listings.{Writes}
use Rattle.article_write_laws.specs.TypeWriting.{term-in_limits, type-writes, variable-writes}

-- The words
var_term-step : (c : Scene) (d : Dictionary) (m : List Made) (v : Variable) (stack : List Object) → term_in_limits (free v.0 v.1) ≡ Ok tt
    → var_term (body_state c d m (Object.variable v ∷ stack)) ≡ Ok (body_state c d m (Object.term (free v.0 v.1) ∷ stack))
var_term-step c d m v stack limits = rw (limits) refl

const_term-step : (c : Scene) (d : Dictionary) (m : List Made) (n : _) (a : HolType) (stack : List Object)
    → generic_fits (generic_type (symbols_of m) n) a ≡ Ok tt → term_in_limits (constant n a) ≡ Ok tt
    → const_term (body_state c d m (Object.type a ∷ Object.constant n ∷ stack))
    ≡ Ok (body_state c d (m ++ map Made.symbol (new_constant (symbols_of m) n)) (Object.term (constant n a) ∷ stack))
const_term-step c d m n a stack fits limits = rw (fits, limits) refl

app_term-step : (c : Scene) (d : Dictionary) (m : List Made) (f x : Term) (stack : List Object) → is_some (type_of (app f x)) ≡ true
    → term_in_limits (app f x) ≡ Ok tt
    → app_term (body_state c d m (Object.term x ∷ Object.term f ∷ stack)) ≡ Ok (body_state c d m (Object.term (app f x) ∷ stack))
app_term-step c d m f x stack typed limits = rw (typed, limits) refl

abs_term-step : (c : Scene) (d : Dictionary) (m : List Made) (v : Variable) (t whole : Term) (stack : List Object) → abstraction v t ≡ whole
    → term_in_limits whole ≡ Ok tt
    → abs_term (body_state c d m (Object.term t ∷ Object.variable v ∷ stack)) ≡ Ok (body_state c d m (Object.term whole ∷ stack))
abs_term-step c d m v t whole stack same limits =
    subst (λ u. term_in_limits u ≡ Ok tt → abs_term (body_state c d m (Object.term t ∷ Object.variable v ∷ stack))
    ≡ Ok (body_state c d m (Object.term u ∷ stack))) same (λ l. rw (l) refl) limits

-- Once where nothing is loose
shared-writes : (c : Scene) (t : Term) (vs : List Variable) (build : Draft → Draft) (d : Draft) (made : List Made) (stack : List Object) → Ready c d made stack
    → Wrote c d.kept made (build d) (Object.term (opened 0 vs t) ∷ stack) → Wrote c d.kept made (shared t build d) (Object.term (opened 0 vs t) ∷ stack)
shared-writes c t vs build d made stack r w = go (loose t == 0) refl
  where
    go : (b : Bool) → (loose t == 0) ≡ b → Wrote c d.kept made (once_closed b t build d) (Object.term (opened 0 vs t) ∷ stack)
    go false e = w
    go true e =
        let same : opened 0 vs t ≡ t = opened-closed 0 vs t (grind (arith, nat_tests, e)) in
        subst (λ u. Wrote c d.kept made (once (Kept.term t) build d) (Object.term u ∷ stack)) (sym same)
        (wrote-once (Kept.term t) build r (subst (λ u. Wrote c d.kept made (build d) (Object.term u ∷ stack)) same w))

-- The parts of a term that has a type
application-parts : (f x : Option HolType) (b : HolType) → application_type f x ≡ Some b → ((p : HolType) × (f ≡ Some p)) × ((q : HolType) × (x ≡ Some q))
application-parts None x b e = absurd (cc)
application-parts (Some p) None b e = absurd (cc)
application-parts (Some p) (Some q) b e = ((p, refl), (q, refl))

abstraction-part : (a : HolType) (t : Option HolType) (b : HolType) → option_map (function a) t ≡ Some b → (c : HolType) × (t ≡ Some c)
abstraction-part a None b e = absurd (cc)
abstraction-part a (Some c) b e = (c, refl)

binder-uses : (c : Scene) (q : ℕ) (types : List HolType) (k : ℕ) (a : HolType) → AllByRecursion (TypeUses c.symbols) types → slice_get types k ≡ Some a
    → TypeUses c.symbols (binder_at (binders q types) k).1
binder-uses c q [] k a h e = absurd (cc)
binder-uses c q (b ∷ types) zero a h e = h.0
binder-uses c q (b ∷ types) (suc k) a h e = binder-uses c q types k a h.1 e

-- what is asked of a part under binders
pub record IsPart (c : Scene) (q : ℕ) (types : List HolType) (t : Term) (a : HolType) : Type 0 where
  pub built : IsBuilt types t
  pub uses : TermUses c.symbols t
  pub binders : AllByRecursion (TypeUses c.symbols) types
  pub names : HasNoBinderName q t
  pub typed : type_under types t ≡ Some a
  pub small : length types + term_depth t < 2 ^ 64

opened-typed : (q : ℕ) (types : List HolType) (t : Term) (a : HolType) → type_under types t ≡ Some a → type_of (opened 0 (binders q types) t) ≡ Some a
opened-typed q types t a e =
    type-opened [] (binders q types) t (omega (arith, loose-typed types t a e, length-binders q types)) ∙ ap (λ l. type_under l t) (types-binders q types) ∙ e

free-type : (n : _) (a : HolType) → TermWithin (free n a) → TypeWithin a
free-type n a h = record { size = omega (arith, h.size); depth = omega (arith, h.depth) }

-- A term
pub writes-under : (c : Scene) (q : ℕ) (t : Term) (types : List HolType) (a : HolType) → IsPart c q types t a
    → Writes c (write_under q (binders q types) t) (Object.term (opened 0 (binders q types) t))
writes-under c q (free n b) types a p d made stack r =
    shared-writes c (free n b) (binders q types) (λ e. say_word word.VarTerm (write_variable (n, b) e)) d made stack r
    (wrote-said (item.Word word.VarTerm) (variable-writes c (n, b) p.uses (free-type n b p.built) d made stack r)
    (λ m e. var_term-step c e m (n, b) stack (term-in_limits (free n b) p.built)))
writes-under c q (bound k) types a p d made stack r =
    let v = binder_at (binders q types) k in
    let within : TermWithin (free v.0 v.1) = opened-within q types (bound k) p.built in
    wrote-said (item.Word word.VarTerm) (variable-writes c v (binder-uses c q types k a p.binders p.typed) (free-type v.0 v.1 within) d made stack r)
    (λ m e. var_term-step c e m v stack (term-in_limits (free v.0 v.1) within))
writes-under c q (constant n b) types a p d made stack r =
    shared-writes c (constant n b) (binders q types) (λ e. say_word word.ConstTerm (write_type b (say_word word.Const (say_name n e)))) d made stack r
    (wrote-then
    (wrote-then (wrote-said {next = Object.constant n ∷ stack} (item.Word word.Const)
    (wrote-said {next = Object.name n ∷ stack} (item.Name n) (wrote-none r) (λ m e. refl)) (λ m e. refl))
    (λ m s. type-writes c b p.uses.1 (free-type n b (record { size = p.built.size; depth = p.built.depth })) (say_word word.Const (say_name n d)) m
    (Object.constant n ∷ stack) s))
    (λ m s.
    let new = constant-new c.symbols (symbols_of m) n b s.among p.uses.0 in
    wrote-taking (item.Word word.ConstTerm) s (new_constant (symbols_of m) n)
    (const_term-step c s.dictionary m n b stack (constant-fits c.symbols (symbols_of m) n b s.among p.uses.0) (term-in_limits (constant n b) p.built))
    new.inputs new.among))
writes-under c q (app f x) types a p d made stack r =
    let vs = binders q types in
    let parts = application-parts (type_under types f) (type_under types x) a p.typed in
    let one = writes-under c q f types parts.0.0
    (record { built = p.built.1.0; uses = p.uses.0; binders = p.binders; names = p.names.0; typed = parts.0.1; small = omega (arith, p.small) }) d made stack r
    in
    let both = wrote-then one (λ m s. writes-under c q x types parts.1.0
    (record { built = p.built.1.1; uses = p.uses.1; binders = p.binders; names = p.names.1; typed = parts.1.1; small = omega (arith, p.small) })
    (write_under q vs f d) m (Object.term (opened 0 vs f) ∷ stack) s) in
    shared-writes c (app f x) vs (λ e. say_word word.AppTerm (write_under q vs x (write_under q vs f e))) d made stack r
    (wrote-said (item.Word word.AppTerm) both
    (λ m e. app_term-step c e m (opened 0 vs f) (opened 0 vs x) stack (ap is_some (opened-typed q types (app f x) a p.typed))
    (term-in_limits (opened 0 vs (app f x)) (opened-within q types (app f x) p.built.0))))
writes-under c q (lam b t) types a p d made stack r =
    let vs = binders q types in
    let v : Variable = next_binder q vs b in
    let part = abstraction-part b (type_under (b ∷ types) t) a p.typed in
    let whole = opened-within q types (lam b t) p.built.0 in
    let long : length vs ≡ length types = length-binders q types in
    let small : length vs < 2 ^ 64 = omega (arith, long, p.small) in
    let one = variable-writes c v p.uses.0 (record { size = omega (arith, whole.size); depth = omega (arith, whole.depth) }) d made stack r in
    let both = wrote-then one (λ m s. writes-under c q t (b ∷ types) part.0
    (record { built = p.built.1; uses = p.uses.1; binders = (p.uses.0, p.binders); names = p.names; typed = part.1; small = omega (arith, p.small) })
    (write_variable v d) m (Object.variable v ∷ stack) s) in
    let same = ap (lam b)
    (close-opened 0 v vs t (λ j. binders-apart q types (length vs) b (omega (arith, long)) small j) (binder-fresh q (length vs) b t small p.names)) in
    shared-writes c (lam b t) vs (λ e. say_word word.AbsTerm (write_under q (v ∷ vs) t (write_variable v e))) d made stack r
    (wrote-said (item.Word word.AbsTerm) both
    (λ m e. abs_term-step c e m v (opened 0 (v ∷ vs) t) (lam b (opened 1 vs t)) stack same (term-in_limits (lam b (opened 1 vs t)) whole)))

-- A whole term
pub record IsOperand (c : Scene) (q : ℕ) (t : Term) : Type 0 where
  pub built : IsBuilt [] t
  pub uses : TermUses c.symbols t
  pub names : HasNoBinderName q t
  pub ty : HolType
  pub typed : type_of t ≡ Some ty
  pub small : term_depth t < 2 ^ 64

pub term-writes : (c : Scene) (q : ℕ) (t : Term) → IsOperand c q t → Writes c (write_term q t) (Object.term t)
term-writes c q t p d made stack r =
    subst (λ u. Wrote c d.kept made (write_term q t d) (Object.term u ∷ stack)) (opened-closed 0 [] t (loose-typed [] t p.ty p.typed))
    (writes-under c q t [] p.ty (record { built = p.built; uses = p.uses; binders = tt {0}; names = p.names; typed = p.typed; small = omega (arith, p.small) })
    d made stack r)
