-- Spines: a head and its arguments, the first on top.
use Rattle.std.proofs.Common.{◌≡◌, refl, sym, ap, ◌∙◌, subst, ℕ, zero, suc, ◌+◌, ◌-◌, ◌<◌, ◌≤◌, arith, length, map, List, [], ◌∷◌, ◌++◌, Option, Some, None}
use Rattle.std.specs.Prelude.{slice_get, option_map, option_and_then, IfOk, Result, Ok, Err}
use Rattle.lp_spec.specs.declared.form.Form.{Form}
use Rattle.lp_spec.specs.declared.form.Form.TheVariants.{Symbol, Def, Thm}
use Rattle.lp_spec.specs.Conversion.{symbol_definition, definition_of}
use Rattle.holide_sig.specs.declared.decls.Decl.{Decl}
use Rattle.holide_sig.specs.ModuleLaws.{AreDeclsKnown-slice_get, symbol_declaration-behind, symbol_declaration-beyond}
use Rattle.lp_spec.specs.Trees.{Tree, Sym, App, Lam, Pi, lift, put, put_all}
use Rattle.lp_spec.specs.Modules.{Declaration, signature, applied}
use Rattle.lp_term.specs.declared.LpId.{LpId}
use Rattle.lp_term.specs.Tables.{tree_at, trees_at, AreKnown, Stays, Holds}
use Rattle.lp_term.specs.TableLaws.{Holds-tree_at, tree_at-Stays, Stays-trans}
use Rattle.holide_sig.specs.declared.module.Module.{Module}
use Rattle.holide_sig.specs.Modules.{declaration_in, declarations_of, IsBodyKnown, AreDeclsKnown, IsHeld}
use Rattle.lp_spec.specs.HeadSteps.{given, symbol_step, spine_step, head_step}
use Rattle.lp_check_laws.specs.HeadStepLaws.{head_step-Steps}
use Rattle.lp_conv.specs.Growth.{Grows}
use Rattle.lp_conv.specs.HeadSteps.{IsKnownIf, tree_if, IsHeadStep, StepsTo}
use Rattle.lp_conv.specs.Heads.{beta_of, functions_of}
use Rattle.lp_conv.specs.GrowthLaws.{trees_at-Stays, AreKnown-Keeps}
use Rattle.lp_conv.specs.GrowthLaws.{Grows-trans, IsHeld-Grows}
use Rattle.std.proofs.Math.Path.{ap₂}

-- what the walk to the head of a spine keeps
pub record IsSpine (from : Module) (id : LpId) (m : Module) (head : LpId) (args : List LpId) : Type 0 where
  pub same : m ≡ from
  pub known : head.0 < length from.table
  pub listed : AreKnown from.table args
  pub is : spine_step (declarations_of from) (tree_at from.table head.0) (trees_at from.table args) ≡ head_step (declarations_of from) (tree_at from.table id.0)

pub spine-more : (from m : Module) (id head f x : LpId) (args new : List LpId) → IsSpine from id m head args
    → Holds m.table head.0 (App (tree_at m.table f.0) (tree_at m.table x.0)) → f.0 < head.0 → x.0 < head.0 → new ≡ x ∷ args → IsSpine from id m f new
spine-more from m id head f x args new s h lf lx e =
    let at = subst (λ (k : Module). Holds k.table head.0 (App (tree_at k.table f.0) (tree_at k.table x.0))) s.same h in
    subst (IsSpine from id m f) (sym e) (record {
      same = s.same;
      known = omega (arith, lf, s.known);
      listed = (omega (arith, lx, s.known), s.listed);
      is = ap (λ t. spine_step (declarations_of from) t (trees_at from.table args)) (sym (Holds-tree_at from.table head.0 _ at)) ∙ s.is;
    })

-- what the application of a tree to arguments keeps
pub record IsApplied (from : Module) (f : LpId) (all : List LpId) (m : Module) (made : LpId) (rest : List LpId) : Type 0 where
  pub grows : Grows from m
  pub held : IsHeld m
  pub known : made.0 < length m.table
  pub listed : AreKnown m.table rest
  pub is : applied (tree_at m.table made.0) (trees_at m.table rest) ≡ applied (tree_at from.table f.0) (trees_at from.table all)

pub applied-more : (from m k : Module) (f made next x : LpId) (all rest new : List LpId) → IsApplied from f all m made rest → rest ≡ x ∷ new → Grows m k
    → next.0 < length k.table → Holds k.table next.0 (App (tree_at m.table made.0) (tree_at m.table x.0))
    → IsApplied from f all k next new
applied-more from m k f made next x all rest new s e g known h =
    let parts = subst (AreKnown m.table) e s.listed in
    record {
      grows = Grows-trans s.grows g;
      held = IsHeld-Grows m k g s.held;
      known = known;
      listed = AreKnown-Keeps g.keeps new parts.1;
      is = ap₂ applied (Holds-tree_at k.table next.0 _ h) (trees_at-Stays g.keeps.stays new parts.1)
          ∙ ap (λ l. applied (tree_at m.table made.0) (trees_at m.table l)) (sym e) ∙ s.is;
    }

-- what beta makes, where what follows it is in a table that has grown
pub beta-applied : (from m k : Module) (body x made whole : LpId) (all rest : List LpId) → Grows from m → all ≡ x ∷ rest → AreKnown from.table rest
    → Holds m.table made.0 (put (tree_at from.table x.0) (tree_at from.table body.0))
    → tree_at k.table whole.0 ≡ applied (tree_at m.table made.0) (trees_at m.table rest) → Some (tree_at k.table whole.0)
    ≡ beta_of (tree_at from.table body.0) (trees_at from.table all)
beta-applied from m k body x made whole all rest g e known h is =
    ap Some (is ∙ ap₂ applied (Holds-tree_at m.table made.0 _ h) (trees_at-Stays g.keeps.stays rest known))
    ∙ ap (λ l. beta_of (tree_at from.table body.0) (trees_at from.table l)) (sym e)

-- a definition's body by its number
module _ (ts : List Tree) (decls : List Decl) where
  definition-is : (s : ℕ) (d : Decl) → length signature ≤ s → slice_get decls (s - length signature) ≡ Some d
      → symbol_definition (map (declaration_in ts) decls) s ≡ definition_of d.form (option_map (λ id. tree_at ts id.0) d.body)
  definition-is s d le at =
      ap (option_and_then (λ d. definition_of d.form d.body)) (symbol_declaration-behind ts decls s le ∙ ap (option_map (declaration_in ts)) at)

  if-known : (o : Option LpId) → IsBodyKnown ts o → IsKnownIf ts o
  if-known None h = tt
  if-known (Some id) h = h

  if-is : (o : Option LpId) → tree_if ts o ≡ option_map (λ id. tree_at ts id.0) o
  if-is None = refl
  if-is (Some id) = refl

  pub body-known : (s : ℕ) (d : Decl) → AreDeclsKnown ts decls → slice_get decls s ≡ Some d → IsKnownIf ts d.body
  body-known s d h at = if-known d.body (AreDeclsKnown-slice_get ts decls s d h at).body

  pub body-is : (s : ℕ) (d : Decl) → length signature ≤ s → slice_get decls (s - length signature) ≡ Some d → d.form ≡ Def → tree_if ts d.body
      ≡ symbol_definition (map (declaration_in ts) decls) s
  body-is s d le at e = if-is d.body ∙ sym (definition-is s d le at ∙ ap (λ f. definition_of f (option_map (λ id. tree_at ts id.0) d.body)) e)

  -- none beyond the declarations
  pub beyond-none : (s : ℕ) → length signature + length decls ≤ s → None ≡ symbol_definition (map (declaration_in ts) decls) s
  beyond-none s h = sym (ap (option_and_then (λ d. definition_of d.form d.body)) (symbol_declaration-beyond ts decls s h))

  none-of : (f : Form) (o : Option Tree) → (f ≡ Def → ⊥) → None ≡ definition_of f o
  none-of Symbol o h = refl
  none-of Def o h = absurd (h refl)
  none-of Thm o h = refl

  pub no-body : (s : ℕ) (d : Decl) → length signature ≤ s → slice_get decls (s - length signature) ≡ Some d → (d.form ≡ Def → ⊥) → None
      ≡ symbol_definition (map (declaration_in ts) decls) s
  no-body s d le at h = none-of d.form _ h ∙ sym (definition-is s d le at)

none-within : (before after : List Declaration) (s : ℕ) → map (λ d. definition_of d.form d.body) before ≡ map (λ d. None) before → s < length before
    → None ≡ option_and_then (λ d. definition_of d.form d.body) (slice_get (before ++ after) s)
none-within [] after s e l = absurd (omega arith)
none-within (d ∷ ds) after zero e l = let h : None ≡ definition_of d.form d.body = cc in h
none-within (d ∷ ds) after (suc s) e l = let h : map (λ d. definition_of d.form d.body) ds ≡ map (λ d. None) ds = cc in none-within ds after s h (omega arith)

-- no symbol of the signature stands for a body
pub signature-none : (m : List Declaration) (s : ℕ) → s < length signature → None ≡ symbol_definition m s
signature-none m s l = none-within signature m s refl l

-- what the walk through a definition's abstractions over `type` keeps
pub record IsGiven (from : Module) (id : LpId) (all : List LpId) (m : Module) (before : List LpId) (body : LpId) (rest : List LpId) : Type 0 where
  pub same : m ≡ from
  pub known : body.0 < length from.table
  pub front : AreKnown from.table before
  pub listed : AreKnown from.table rest
  pub is : given (trees_at from.table before) (tree_at from.table body.0) (trees_at from.table rest)
      ≡ given [] (tree_at from.table id.0) (trees_at from.table all)

known-append : (ts : List Tree) (xs : List LpId) (x : LpId) → AreKnown ts xs → x.0 < length ts → AreKnown ts (xs ++ x ∷ [])
known-append ts [] x h k = (k, tt)
known-append ts (y ∷ ys) x h k = (h.0, known-append ts ys x h.1 k)

trees-append : (ts : List Tree) (xs : List LpId) (x : LpId) → trees_at ts (xs ++ x ∷ []) ≡ trees_at ts xs ++ tree_at ts x.0 ∷ []
trees-append ts [] x = refl
trees-append ts (y ∷ ys) x = ap (λ l. tree_at ts y.0 ∷ l) (trees-append ts ys x)

pub given-more : (from m : Module) (id body inner x : LpId) (all before after rest new : List LpId) → IsGiven from id all m before body rest → rest ≡ x ∷ new
    → after ≡ before ++ x ∷ [] → (inner.0 < body.0) × (tree_at m.table body.0 ≡ Lam (Sym 0) (tree_at m.table inner.0))
    → IsGiven from id all m after inner new
given-more from m id body inner x all before after rest new s e f h =
    let parts = subst (AreKnown from.table) e s.listed in
    let lam = subst (λ (k : Module). tree_at k.table body.0 ≡ Lam (Sym 0) (tree_at k.table inner.0)) s.same h.1 in
    record {
      same = s.same;
      known = omega (arith, h.0, s.known);
      front = subst (AreKnown from.table) (sym f) (known-append from.table before x s.front parts.0);
      listed = parts.1;
      is =
          ap (λ l. given (trees_at from.table l) (tree_at from.table inner.0) (trees_at from.table new)) f
          ∙ ap (λ l. given l (tree_at from.table inner.0) (trees_at from.table new)) (trees-append from.table before x)
          ∙ ap (λ t. given (trees_at from.table before) t (trees_at from.table (x ∷ new))) (sym lam)
          ∙ ap (λ l. given (trees_at from.table before) (tree_at from.table body.0) (trees_at from.table l)) (sym e) ∙ s.is;
    }

-- what is given all its arguments, where what follows is in a table that has grown
pub given-applied : (from m k : Module) (id body made whole : LpId) (all before rest : List LpId) → Grows from m → IsGiven from id all from before body rest
    → ((before args : List Tree) → given before (tree_at from.table body.0) args ≡ Some (applied (put_all before (tree_at from.table body.0)) args))
    → Holds m.table made.0 (put_all (trees_at from.table before) (tree_at from.table body.0)) → tree_at k.table whole.0
    ≡ applied (tree_at m.table made.0) (trees_at m.table rest)
    → Some (tree_at k.table whole.0) ≡ given [] (tree_at from.table id.0) (trees_at from.table all)
given-applied from m k id body made whole all before rest g s none h is =
    ap Some (is ∙ ap₂ applied (Holds-tree_at m.table made.0 _ h) (trees_at-Stays g.keeps.stays rest s.listed))
    ∙ sym (none (trees_at from.table before) (trees_at from.table rest)) ∙ s.is

-- `term a -> term b`, made in five tables
pub functions-is : (t0 t1 t2 t3 t4 t5 : List Tree) (a b term domain body lifted r : LpId) → Stays t0 t1 → Stays t1 t2 → Stays t2 t3 → Stays t3 t4
    → a.0 < length t0 → b.0 < length t0
    → Holds t1 term.0 (Sym 4) → Holds t2 domain.0 (App (tree_at t1 term.0) (tree_at t1 a.0)) → Holds t3 body.0 (App (tree_at t2 term.0) (tree_at t2 b.0))
    → Holds t4 lifted.0 (lift 1 (tree_at t3 body.0))
    → Holds t5 r.0 (Pi (tree_at t4 domain.0) (tree_at t4 lifted.0)) → tree_at t5 r.0 ≡ functions_of (tree_at t0 a.0) (tree_at t0 b.0)
functions-is t0 t1 t2 t3 t4 t5 a b term domain body lifted r s1 s2 s3 s4 ha hb h1 h2 h3 h4 h5 =
    Holds-tree_at t5 r.0 _ h5
    ∙ ap₂ Pi
    (Holds-tree_at t4 domain.0 _ (s4.each domain.0 _ (s3.each domain.0 _ h2)) ∙ ap₂ App (Holds-tree_at t1 term.0 _ h1) (sym (tree_at-Stays s1 a.0 ha)))
    (Holds-tree_at t4 lifted.0 _ h4
    ∙ ap (lift 1) (Holds-tree_at t3 body.0 _ h3 ∙ ap₂ App (Holds-tree_at t2 term.0 _ (s2.each term.0 _ h1)) (sym (tree_at-Stays (Stays-trans s1 s2) b.0 hb))))

-- what follows from what holds of a result
pub IfOk-map : {X E : Type 0} {P Q : X → Type 0} (r : Result X E) → ((x : X) → P x → Q x) → IfOk r P → IfOk r Q
IfOk-map (Ok x) f h = f x h
IfOk-map (Err e) f h = tt

-- an abstraction at arguments, at the end of the walk
pub spine-beta : (from m : Module) (id head : LpId) (a b : Tree) (args : List LpId) → IsSpine from id m head args → Holds m.table head.0 (Lam a b)
    → beta_of b (trees_at m.table args) ≡ head_step (declarations_of from) (tree_at from.table id.0)
spine-beta from m id head a b args s h =
    at_arguments (trees_at m.table args) ∙ ap (λ (k : Module). spine_step (declarations_of k) (Lam a b) (trees_at k.table args)) s.same
    ∙ ap (λ t. spine_step (declarations_of from) t (trees_at from.table args))
    (sym (Holds-tree_at from.table head.0 _ (subst (λ (k : Module). Holds k.table head.0 (Lam a b)) s.same h))) ∙ s.is
  where
    at_arguments : (xs : List Tree) → beta_of b xs ≡ spine_step (declarations_of m) (Lam a b) xs
    at_arguments [] = refl
    at_arguments (x ∷ xs) = refl

-- a symbol at arguments, at the end of the walk
pub spine-symbol : (from m : Module) (id head : LpId) (n : ℕ) (args : List LpId) → IsSpine from id m head args → Holds m.table head.0 (Sym n)
    → symbol_step (declarations_of m) n (trees_at m.table args) ≡ head_step (declarations_of from) (tree_at from.table id.0)
spine-symbol from m id head n args s h =
    ap (λ (k : Module). symbol_step (declarations_of k) n (trees_at k.table args)) s.same
    ∙ ap (λ t. spine_step (declarations_of from) t (trees_at from.table args))
    (sym (Holds-tree_at from.table head.0 _ (subst (λ (k : Module). Holds k.table head.0 (Sym n)) s.same h))) ∙ s.is

-- what a head step makes is reached by a chain of steps
pub IsHeadStep-StepsTo : (old new : Module) (id : LpId) (made : Option LpId) → IsHeadStep old id new made → StepsTo old id new made
IsHeadStep-StepsTo old new id None e = tt
IsHeadStep-StepsTo old new id (Some u) e = head_step-Steps (declarations_of old) (tree_at old.table id.0) (tree_at new.table u.0) (sym e)
