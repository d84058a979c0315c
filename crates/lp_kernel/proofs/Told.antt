-- Turns that go on with a type that was found.
use Rattle.std.proofs.Common.{◌≡◌, refl, sym, ap, ◌∙◌, subst, ℕ, suc, ◌+◌, ◌-◌, ◌<◌, ◌≤◌, arith, ◌⊎◌, inl, inr, Bool, true, false, length, List, [], ◌∷◌, Option, Some, None}
use Rattle.std.specs.Prelude.{if◌then◌else◌, nat_eq}
use Rattle.std.proofs.Math.Path.{fun_ext}
use Rattle.std.proofs.lemmas.Bool.{eqb-true}
use Rattle.lp_spec.specs.Trees.{Tree, SortType, SortKind, Var, Sym, App, Lam, Pi, put_all, put_all_at}
use Rattle.lp_binding_laws.specs.TreeEquality.{tree_eq-refl, tree_eq-true}
use Rattle.lp_spec.specs.Trees.{tree_eq}
use Rattle.std.proofs.Math.Path.{ap₂, subst₂}
use Rattle.lp_spec.specs.Modules.{Declaration}
use Rattle.lp_binding_laws.specs.Arguments.{put-put_all}
use Rattle.lp_check_laws.specs.Sizes.{put_all-nil}
use Rattle.lp_term.specs.declared.LpId.{LpId}
use Rattle.lp_term.specs.declared.LpNode.{LpNode}
use Rattle.lp_term.specs.declared.LpNode.TheVariants as node
use Rattle.lp_term.specs.Tables.{tree_at, trees_at, tree_of_node, Holds, Stays, IsDistinct}
use Rattle.lp_term.specs.TableLaws.{Holds-tree_at, tree_at-Holds, tree_at-Stays}
use Rattle.lp_spec.specs.HeadSteps.{head_step}
use Rattle.lp_spec.specs.Check.{Infer, Reach, Meet, Convert, Reply, Found, No, Plan, Say, Ask, if_sort, unless_kind, recheck, if_product, if_step, product_of, reach, Ends}
use Rattle.lp_check_laws.specs.PlanLaws.{and_then, Leaves, leaves_equal, leaves_then, leaves_fewer, leaves_ask, leaves_found, leaves_no, over_then, over_leaves}
use Rattle.lp_kernel.specs.declared.state.Application.{Application}
use Rattle.lp_kernel.specs.declared.state.Argument.{Argument}
use Rattle.lp_kernel.specs.declared.state.Frame.{Frame}
use Rattle.lp_kernel.specs.declared.state.Frame.TheVariants as frame
use Rattle.lp_kernel.specs.declared.state.Next.{Next}
use Rattle.lp_kernel.specs.declared.state.Next.TheVariants as next
use Rattle.lp_kernel.specs.declared.state.State.{State}
use Rattle.holide_sig.specs.declared.module.Module.{Module}
use Rattle.holide_sig.specs.Modules.{declarations_of}
use Rattle.lp_conv.specs.Answers.{Answered, IsOver}
use Rattle.lp_kernel.specs.Pending.{spine_args, filled, resume, applying, conversion, meeting, outside, IsApplication, IsFilled, IsTurned, IsTold, IsApplied, IsConverted}
use Rattle.lp_kernel.proofs.Reached.{reached-answered, reached-over}

-- no arguments leave a tree alone
put_all_at-nil : (d : ℕ) (t : Tree) → put_all_at d [] t ≡ t
put_all_at-nil d SortType = refl
put_all_at-nil d SortKind = refl
put_all_at-nil d (Var n) = grind arith
put_all_at-nil d (Sym s) = refl
put_all_at-nil d (App f x) = ap₂ App (put_all_at-nil d f) (put_all_at-nil d x)
put_all_at-nil d (Lam a b) = ap₂ Lam (put_all_at-nil d a) (put_all_at-nil (suc d) b)
put_all_at-nil d (Pi a b) = ap₂ Pi (put_all_at-nil d a) (put_all_at-nil (suc d) b)

-- numbers that are equal, and numbers that are not
pub same-tree : (ts : List Tree) (e f : LpId) → true ≡ nat_eq e.0 f.0 → tree_eq (tree_at ts e.0) (tree_at ts f.0) ≡ true
same-tree ts e f h = subst (λ t. tree_eq (tree_at ts e.0) t ≡ true) (ap (tree_at ts) (eqb-true e.0 f.0 (sym h))) (tree_eq-refl (tree_at ts e.0))

pub other-tree : (ts : List Tree) (e f : LpId) → IsDistinct ts → e.0 < length ts → f.0 < length ts → false ≡ nat_eq e.0 f.0
    → tree_eq (tree_at ts e.0) (tree_at ts f.0) ≡ false
other-tree ts e f d he hf h = go (tree_eq (tree_at ts e.0) (tree_at ts f.0)) refl
  where
    go : (b : Bool) → tree_eq (tree_at ts e.0) (tree_at ts f.0) ≡ b → b ≡ false
    go false q = refl
    go true q =
        let p = d.each e.0 f.0 (tree_at ts f.0) (tree_at-Holds ts e.0 he ∙ ap Some (tree_eq-true _ _ q)) (tree_at-Holds ts f.0 hf) in
        let r = ap (λ n. nat_eq e.0 n) p in
        absurd (grind arith)

-- a type with arguments put in, in the table that has grown
pub filled-here : {ts us : List Tree} → Stays ts us → (b : LpId) (k : ℕ) (f r : LpId) → b.0 < length ts → f.0 < length ts → IsFilled ts b k f us r
    → tree_at us r.0 ≡ filled us b k f
filled-here s b k f r hb hf h = h ∙ ap₂ (λ F B. put_all (spine_args k F) B) (tree_at-Stays s f.0 hf) (tree_at-Stays s b.0 hb)

-- and in one that has grown further
pub filled-still : {us vs : List Tree} → Stays us vs → (a : LpId) (k : ℕ) (f d : LpId) → a.0 < length us → f.0 < length us → d.0 < length us → tree_at us d.0
    ≡ filled us a k f → tree_at vs d.0 ≡ filled vs a k f
filled-still s a k f d ha hf hd h = sym (tree_at-Stays s d.0 hd) ∙ h ∙ ap₂ (λ F A. put_all (spine_args k F) A) (tree_at-Stays s f.0 hf) (tree_at-Stays s a.0 ha)

-- trees that differ stay so
pub other-still : {ts us : List Tree} → Stays ts us → (e f : LpId) → e.0 < length ts → f.0 < length ts → tree_eq (tree_at ts e.0) (tree_at ts f.0) ≡ false
    → tree_eq (tree_at us e.0) (tree_at us f.0) ≡ false
other-still s e f he hf h = subst₂ (λ t u. tree_eq t u ≡ false) (tree_at-Stays s e.0 he) (tree_at-Stays s f.0 hf) h

-- a sort lets a plan go on
pub sorted-on : (ts : List Tree) (n : LpNode) (p : Plan) → (n ≡ node.SortType) ⊎ (n ≡ node.SortKind) → if_sort (tree_of_node ts n) p ≡ p
sorted-on ts n p (inl e) = ap (λ k. if_sort (tree_of_node ts k) p) e
sorted-on ts n p (inr e) = ap (λ k. if_sort (tree_of_node ts k) p) e

-- a turn of a plan is one of a plan that is the same
pub turned-as : (rechecks : Bool) (m : Module) (old new : ℕ) (t : State) (n : Next) {p q : Plan} → p ≡ q → IsTurned rechecks m q old new t n
    → IsTurned rechecks m p old new t n
turned-as rechecks m old new t n e h = subst (λ p. IsTurned rechecks m p old new t n) (sym e) h

-- a turn of what a plan leaves is one of the plan
pub turned-from : (rechecks : Bool) (m : Module) (t : State) (n : Next) (spent old mid new : ℕ) {p q : Plan} → Leaves (declarations_of m) rechecks p spent q
    → old ≤ spent + mid → new ≤ mid → IsTurned rechecks m q mid new t n → IsTurned rechecks m p old new t n
turned-from rechecks m t n spent old mid new {p = p} {q = q} first lo ln = go n
  where
    go : (n : Next) → IsTurned rechecks m q mid new t n → IsTurned rechecks m p old new t n
    go (next.Ask id) h = leaves_fewer (declarations_of m) rechecks (omega (arith, lo, ln)) (leaves_then (declarations_of m) rechecks first h)
    go (next.Tell id) h = leaves_fewer (declarations_of m) rechecks (omega (arith, lo, ln)) (leaves_then (declarations_of m) rechecks first h)
    go (next.Under b j f) h = leaves_fewer (declarations_of m) rechecks (omega (arith, lo, ln)) (leaves_then (declarations_of m) rechecks first h)
    go next.No h = leaves_fewer (declarations_of m) rechecks (omega (arith, lo, ln)) (leaves_then (declarations_of m) rechecks first h)
    go next.Over h = over_leaves (declarations_of m) rechecks first lo h

-- what goes on with the type of an argument, where the function's type is a product that is to have so many arguments put in
abbrev pub met : LpId → LpId → ℕ → Application → Frame
met a b k e = frame.Argument (record { domain = a; body = b; count = k; app = e })

-- what goes on after a sort, in two ways that agree
if_sort-then : (s : Tree) (p q : Plan) (f g : Tree → Plan) → and_then p f ≡ and_then q g → and_then (if_sort s p) f ≡ and_then (if_sort s q) g
if_sort-then SortType p q f g e = e
if_sort-then SortKind p q f g e = e
if_sort-then (Var n) p q f g e = refl
if_sort-then (Sym s) p q f g e = refl
if_sort-then (App a b) p q f g e = refl
if_sort-then (Lam a b) p q f g e = refl
if_sort-then (Pi a b) p q f g e = refl

module _ (rechecks : Bool) (ds : List Declaration) (ts : List Tree) (c : List LpId) (fs : List Frame) where
  -- a meeting of one type with itself, and of two types, with rechecks of sorts and without
  meet-same : (A X P : Tree) → tree_eq A X ≡ true → Leaves ds rechecks (Ask (Meet (trees_at ts c) A X) (λ _. resume rechecks ds ts c fs P)) 1
      (resume rechecks ds ts c fs P)
  meet-same A X P e =
      leaves_then ds rechecks (leaves_ask ds rechecks (Meet (trees_at ts c) A X) (λ t. resume rechecks ds ts c fs P))
      (leaves_equal ds rechecks
      (ap (λ q. and_then (if q then Say (Found A) else recheck rechecks (trees_at ts c) A (Ask (Convert A X) (λ _. Say (Found A))))
      (λ t. resume rechecks ds ts c fs P)) e))

  meet-other : rechecks ≡ true → (A X P : Tree) → tree_eq A X ≡ false
      → Leaves ds rechecks (Ask (Meet (trees_at ts c) A X) (λ _. resume rechecks ds ts c fs P)) 1
      (Ask (Infer (trees_at ts c) A) (λ s. and_then (if_sort s (Ask (Convert A X) (λ _. Say (Found P)))) (resume rechecks ds ts c fs)))
  meet-other on A X P e =
      let rest = resume rechecks ds ts c fs in
      leaves_then ds rechecks (leaves_ask ds rechecks (Meet (trees_at ts c) A X) (λ t. rest P))
      (leaves_equal ds rechecks
      (ap (λ q. and_then (if q then Say (Found A) else recheck rechecks (trees_at ts c) A (Ask (Convert A X) (λ _. Say (Found A)))) (λ t. rest P)) e
      ∙ ap (λ r. and_then (recheck r (trees_at ts c) A (Ask (Convert A X) (λ _. Say (Found A)))) (λ t. rest P)) on
      ∙ ap (Ask (Infer (trees_at ts c) A))
      (fun_ext (λ s. if_sort-then s (Ask (Convert A X) (λ _. Say (Found A))) (Ask (Convert A X) (λ _. Say (Found P))) (λ t. rest P) rest refl))))

  meet-fast : rechecks ≡ false → (A X P : Tree) → tree_eq A X ≡ false
      → Leaves ds rechecks (Ask (Meet (trees_at ts c) A X) (λ _. resume rechecks ds ts c fs P)) 1 (Ask (Convert A X) (λ _. resume rechecks ds ts c fs P))
  meet-fast off A X P e =
      let rest = resume rechecks ds ts c fs in
      leaves_then ds rechecks (leaves_ask ds rechecks (Meet (trees_at ts c) A X) (λ t. rest P))
      (leaves_equal ds rechecks
      (ap (λ q. and_then (if q then Say (Found A) else recheck rechecks (trees_at ts c) A (Ask (Convert A X) (λ _. Say (Found A)))) (λ t. rest P)) e
      ∙ ap (λ r. and_then (recheck r (trees_at ts c) A (Ask (Convert A X) (λ _. Say (Found A)))) (λ t. rest P)) off))

  -- the turn of a meeting of one type with itself
  pub told-same : (e : Argument) (found domain : LpId) (more spent : ℕ) → tree_at ts domain.0 ≡ filled ts e.domain e.count e.app.function
      → tree_eq (tree_at ts domain.0) (tree_at ts found.0) ≡ true → more ≡ suc e.count → spent ≤ 1
      → Leaves ds rechecks (resume rechecks ds ts c (frame.Argument e ∷ fs) (tree_at ts found.0)) spent
      (resume rechecks ds ts c fs (filled ts e.body more e.app.whole))
  told-same e found domain more spent is q m le =
      let P = λ (j : ℕ). filled ts e.body j e.app.whole in
      let X = tree_at ts found.0 in
      leaves_fewer ds rechecks le
      (subst (λ j. Leaves ds rechecks (resume rechecks ds ts c (frame.Argument e ∷ fs) X) 1 (resume rechecks ds ts c fs (P j))) (sym m)
      (subst (λ A. Leaves ds rechecks (Ask (Meet (trees_at ts c) A X) (λ _. resume rechecks ds ts c fs (P (suc e.count)))) 1
      (resume rechecks ds ts c fs (P (suc e.count)))) is (meet-same (tree_at ts domain.0) X (P (suc e.count)) q)))

  -- the turn of a meeting of two types
  pub told-other : rechecks ≡ true → (e : Argument) (found domain : LpId) (more : ℕ) (new : List Frame) (spent : ℕ) → tree_at ts domain.0
      ≡ filled ts e.domain e.count e.app.function → tree_eq (tree_at ts domain.0) (tree_at ts found.0) ≡ false → more ≡ suc e.count
      → new ≡ frame.Expected (record { domain = domain; body = e.body; count = more; whole = e.app.whole; found = found }) ∷ fs → spent ≤ 1
      → Leaves ds rechecks (resume rechecks ds ts c (frame.Argument e ∷ fs) (tree_at ts found.0)) spent
      (Ask (Infer (trees_at ts c) (tree_at ts domain.0)) (resume rechecks ds ts c new))
  told-other on e found domain more new spent is q m at le =
      let D = tree_at ts domain.0 in
      let X = tree_at ts found.0 in
      let P = λ (j : ℕ). filled ts e.body j e.app.whole in
      let E = λ (j : ℕ). frame.Expected (record { domain = domain; body = e.body; count = j; whole = e.app.whole; found = found }) in
      leaves_fewer ds rechecks le
      (subst (λ l. Leaves ds rechecks (resume rechecks ds ts c (frame.Argument e ∷ fs) X) 1 (Ask (Infer (trees_at ts c) D) (resume rechecks ds ts c l)))
      (sym at)
      (subst (λ j. Leaves ds rechecks (resume rechecks ds ts c (frame.Argument e ∷ fs) X) 1
      (Ask (Infer (trees_at ts c) D) (resume rechecks ds ts c (E j ∷ fs)))) (sym m)
      (subst (λ A. Leaves ds rechecks (Ask (Meet (trees_at ts c) A X) (λ _. resume rechecks ds ts c fs (P (suc e.count)))) 1
      (Ask (Infer (trees_at ts c) D) (resume rechecks ds ts c (E (suc e.count) ∷ fs)))) is (meet-other on D X (P (suc e.count)) q))))

  -- and without rechecks of sorts
  met-other : rechecks ≡ false → (e : Argument) (found domain : LpId) (more : ℕ) → tree_at ts domain.0 ≡ filled ts e.domain e.count e.app.function
      → tree_eq (tree_at ts domain.0) (tree_at ts found.0) ≡ false → more ≡ suc e.count
      → Leaves ds rechecks (resume rechecks ds ts c (frame.Argument e ∷ fs) (tree_at ts found.0)) 1
      (Ask (Convert (tree_at ts domain.0) (tree_at ts found.0)) (λ _. resume rechecks ds ts c fs (filled ts e.body more e.app.whole)))
  met-other off e found domain more is q m =
      let D = tree_at ts domain.0 in
      let X = tree_at ts found.0 in
      let P = λ (j : ℕ). filled ts e.body j e.app.whole in
      subst (λ j. Leaves ds rechecks (resume rechecks ds ts c (frame.Argument e ∷ fs) X) 1 (Ask (Convert D X) (λ _. resume rechecks ds ts c fs (P j)))) (sym m)
      (subst (λ A. Leaves ds rechecks (Ask (Meet (trees_at ts c) A X) (λ _. resume rechecks ds ts c fs (P (suc e.count)))) 1
      (Ask (Convert D X) (λ _. resume rechecks ds ts c fs (P (suc e.count))))) is (meet-fast off D X (P (suc e.count)) q))

  -- the argument is asked for, and what is put in the body goes into the type of the application
  pub asked-argument : (a b : LpId) (k : ℕ) (e : Application) → IsApplication ts e
      → and_then (Ask (Infer (trees_at ts c) (tree_at ts e.argument.0))
      (meeting (trees_at ts c) (put_all_at 0 (spine_args k (tree_at ts e.function.0)) (tree_at ts a.0))
      (put_all_at 1 (spine_args k (tree_at ts e.function.0)) (tree_at ts b.0)) (tree_at ts e.argument.0))) (resume rechecks ds ts c fs)
      ≡ Ask (Infer (trees_at ts c) (tree_at ts e.argument.0)) (resume rechecks ds ts c (met a b k e ∷ fs))
  asked-argument a b k e h =
      let ys = spine_args k (tree_at ts e.function.0) in
      let A = put_all_at 0 ys (tree_at ts a.0) in
      ap (λ P. Ask (Infer (trees_at ts c) (tree_at ts e.argument.0)) (λ X. Ask (Meet (trees_at ts c) A X) (λ _. resume rechecks ds ts c fs P)))
      (put-put_all (tree_at ts e.argument.0) ys (tree_at ts b.0)
      ∙ ap (λ t. put_all (spine_args (suc k) t) (tree_at ts b.0)) (sym (Holds-tree_at ts e.whole.0 _ h.is)))

  -- the turn of a function whose type is a product that is to have arguments put in
  pub told-under : (e : Application) (found a b : LpId) (k : ℕ) (new : List Frame) (spent : ℕ) → Holds ts found.0 (Pi (tree_at ts a.0) (tree_at ts b.0))
      → IsApplication ts e → new ≡ met a b k e ∷ fs → spent ≤ 0
      → Leaves ds rechecks (resume rechecks ds ts c (frame.Function e ∷ fs) (filled ts found k e.function)) spent
      (Ask (Infer (trees_at ts c) (tree_at ts e.argument.0)) (resume rechecks ds ts c new))
  told-under e found a b k new spent h app is le =
      leaves_fewer ds rechecks le (leaves_equal ds rechecks (
      ap (λ t. resume rechecks ds ts c (frame.Function e ∷ fs) (put_all (spine_args k (tree_at ts e.function.0)) t)) (Holds-tree_at ts found.0 _ h)
      ∙ asked-argument a b k e app
      ∙ ap (λ l. Ask (Infer (trees_at ts c) (tree_at ts e.argument.0)) (resume rechecks ds ts c l)) (sym is)))

  -- the turn of a function whose type is a product
  pub told-product : (e : Application) (found a b : LpId) (new : List Frame) (spent : ℕ) → Holds ts found.0 (Pi (tree_at ts a.0) (tree_at ts b.0))
      → IsApplication ts e → new ≡ met a b 0 e ∷ fs → spent ≤ 0
      → Leaves ds rechecks (resume rechecks ds ts c (frame.Function e ∷ fs) (tree_at ts found.0)) spent
      (Ask (Infer (trees_at ts c) (tree_at ts e.argument.0)) (resume rechecks ds ts c new))
  told-product e found a b new spent h app is le =
      subst (λ t. Leaves ds rechecks (resume rechecks ds ts c (frame.Function e ∷ fs) t) spent
      (Ask (Infer (trees_at ts c) (tree_at ts e.argument.0)) (resume rechecks ds ts c new))) (put_all-nil (tree_at ts found.0))
      (told-under e found a b 0 new spent h app is le)

  -- the turn of an abstraction's domain
  pub told-domain : (a b found : LpId) (new : List Frame) (d : List LpId) (spent : ℕ) → Holds ts found.0 SortType → new ≡ frame.Body a ∷ fs → d ≡ a ∷ c
      → spent ≤ 0
      → Leaves ds rechecks (resume rechecks ds ts c (frame.Domain a b ∷ fs) (tree_at ts found.0)) spent
      (Ask (Infer (trees_at ts d) (tree_at ts b.0)) (resume rechecks ds ts d new))
  told-domain a b found new d spent h is e le =
      leaves_fewer ds rechecks le (leaves_equal ds rechecks (
      ap (λ t. resume rechecks ds ts c (frame.Domain a b ∷ fs) t) (Holds-tree_at ts found.0 _ h)
      ∙ ap₂ (λ k l. Ask (Infer (trees_at ts k) (tree_at ts b.0)) (resume rechecks ds ts k l)) (sym e) (sym is)))

  -- a tree of a node other than Kind is not Kind
  not-kind : (n : LpNode) (rest : Plan) → (n ≡ node.SortKind → ⊥) → unless_kind (tree_of_node ts n) rest ≡ rest
  not-kind node.SortType rest h = refl
  not-kind node.SortKind rest h = absurd (h refl)
  not-kind (node.Var n) rest h = refl
  not-kind (node.Sym s) rest h = refl
  not-kind (node.App f x) rest h = refl
  not-kind (node.Lam a b) rest h = refl
  not-kind (node.Pi a b) rest h = refl

-- the turn of an abstraction's body, in a table that has grown
pub told-body : (rechecks : Bool) (ds : List Declaration) (ts us : List Tree) (c d : List LpId) (fs : List Frame) (a found made : LpId) (n : LpNode) (spent : ℕ)
    → Stays ts us → a.0 < length ts → found.0 < length ts
    → Holds ts found.0 (tree_of_node ts n) → (n ≡ node.SortKind → ⊥) → Holds us made.0 (Pi (tree_at ts a.0) (tree_at ts found.0)) → d ≡ outside c → spent ≤ 0
    → Leaves ds rechecks (resume rechecks ds us c (frame.Body a ∷ fs) (tree_at us found.0)) spent (resume rechecks ds us d fs (tree_at us made.0))
told-body rechecks ds ts us c d fs a found made n spent s ha hf at not h e le =
    let B = tree_at us found.0 in
    let is : B ≡ tree_of_node ts n = sym (tree_at-Stays s found.0 hf) ∙ Holds-tree_at ts found.0 _ at in
    let product : tree_at us made.0 ≡ Pi (tree_at us a.0) B = Holds-tree_at us made.0 _ h ∙ ap₂ Pi (tree_at-Stays s a.0 ha) (tree_at-Stays s found.0 hf) in
    leaves_fewer ds rechecks le (leaves_equal ds rechecks (
    ap (λ p. and_then p (resume rechecks ds us (outside c) fs))
    (ap (λ t. unless_kind t (Say (Found (Pi (tree_at us a.0) B)))) is ∙ not-kind rechecks ds ts c fs n (Say (Found (Pi (tree_at us a.0) B))) not)
    ∙ ap₂ (λ k t. resume rechecks ds us k fs t) (sym e) (sym product)))

-- the product of a type that is none goes through what head steps reach
product-reach : (rechecks : Bool) (ds : List Declaration) (G : List Tree) (F : Tree) (R : Tree → Tree → Plan) (k : Tree → Plan) (o : Option Tree)
    → and_then (if_step o (λ H. Ask (Reach H) (λ P. recheck rechecks G P (if_product P R)))) k
    ≡ and_then (if_step o (λ H. Ask (Reach H) (λ P. Say (Found P)))) (λ P. and_then (recheck rechecks G P (if_product P R)) k)
product-reach rechecks ds G F R k None = refl
product-reach rechecks ds G F R k (Some H) = refl

pub product-of-other : (rechecks : Bool) (ds : List Declaration) (ts : List Tree) (G : List Tree) (n : LpNode) (R : Tree → Tree → Plan) (k : Tree → Plan)
    → ((a b : LpId) → n ≡ node.Pi a b → ⊥)
    → and_then (product_of ds rechecks G (tree_of_node ts n) R) k
    ≡ and_then (reach ds (tree_of_node ts n)) (λ P. and_then (recheck rechecks G P (if_product P R)) k)
product-of-other rechecks ds ts G (node.Pi a b) R k h = absurd (h a b refl)
product-of-other rechecks ds ts G node.SortType R k h = product-reach rechecks ds G SortType R k None
product-of-other rechecks ds ts G node.SortKind R k h = product-reach rechecks ds G SortKind R k None
product-of-other rechecks ds ts G (node.Var n) R k h = product-reach rechecks ds G (Var n) R k None
product-of-other rechecks ds ts G (node.Sym s) R k h = product-reach rechecks ds G (Sym s) R k (head_step ds (Sym s))
product-of-other rechecks ds ts G (node.App f x) R k h = let F = App (tree_at ts f.0) (tree_at ts x.0) in product-reach rechecks ds G F R k (head_step ds F)
product-of-other rechecks ds ts G (node.Lam a b) R k h = let F = Lam (tree_at ts a.0) (tree_at ts b.0) in product-reach rechecks ds G F R k (head_step ds F)

module _ (rechecks : Bool) (ds : List Declaration) (ts us : List Tree) (c : List LpId) (fs : List Frame) (e : Application) (found : LpId) (n : LpNode) where
  -- a function's type goes through what is reached from it
  through : Stays ts us → found.0 < length ts → Holds ts found.0 (tree_of_node ts n) → ((a b : LpId) → n ≡ node.Pi a b → ⊥)
      → resume rechecks ds us c (frame.Function e ∷ fs) (tree_at us found.0)
      ≡ and_then (reach ds (tree_at ts found.0))
      (λ P. and_then (recheck rechecks (trees_at us c) P
      (if_product P (λ A B. Ask (Infer (trees_at us c) (tree_at us e.argument.0)) (meeting (trees_at us c) A B (tree_at us e.argument.0)))))
      (resume rechecks ds us c fs))
  through s hf at not =
      let R = λ (A : Tree) (B : Tree). Ask (Infer (trees_at us c) (tree_at us e.argument.0)) (meeting (trees_at us c) A B (tree_at us e.argument.0)) in
      let is = Holds-tree_at ts found.0 _ at in
      ap (λ t. and_then (product_of ds rechecks (trees_at us c) t R) (resume rechecks ds us c fs)) (sym (tree_at-Stays s found.0 hf) ∙ is)
      ∙ product-of-other rechecks ds ts (trees_at us c) n R (resume rechecks ds us c fs) not
      ∙ ap (λ t. and_then (reach ds t) (λ P. and_then (recheck rechecks (trees_at us c) P (if_product P R)) (resume rechecks ds us c fs))) (sym is)

  -- and is left where a product was reached
  reached-on : (product : LpId) (spent : ℕ) → Stays ts us → found.0 < length ts → Holds ts found.0 (tree_of_node ts n) → ((a b : LpId) → n ≡ node.Pi a b → ⊥)
      → Answered ds true (reach ds (tree_at ts found.0)) (Found (tree_at us product.0)) spent
      → Leaves ds rechecks (resume rechecks ds us c (frame.Function e ∷ fs) (tree_at us found.0)) spent
      (and_then (recheck rechecks (trees_at us c) (tree_at us product.0) (applying us (trees_at us c) e.argument (tree_at us product.0)))
      (resume rechecks ds us c fs))
  reached-on product spent s hf at not g =
      let h = reached-answered rechecks ds (tree_at ts found.0) (Found (tree_at us product.0)) spent g in
      subst (λ p. Leaves ds rechecks p spent
      (and_then (recheck rechecks (trees_at us c) (tree_at us product.0) (applying us (trees_at us c) e.argument (tree_at us product.0)))
      (resume rechecks ds us c fs))) (sym (through s hf at not))
      (leaves_found ds rechecks (reach ds (tree_at ts found.0))
      (λ P. and_then (recheck rechecks (trees_at us c) P (applying us (trees_at us c) e.argument P)) (resume rechecks ds us c fs)) (tree_at us product.0)
      h.price spent h.ends h.within)

  -- the turn of a function whose type reaches a product
  pub told-reached : rechecks ≡ true → (product : LpId) (new : List Frame) (spent : ℕ) → Stays ts us → found.0 < length ts
      → Holds ts found.0 (tree_of_node ts n) → ((a b : LpId) → n ≡ node.Pi a b → ⊥)
      → Answered ds true (reach ds (tree_at ts found.0)) (Found (tree_at us product.0)) spent → new ≡ frame.Reached product e ∷ fs
      → Leaves ds rechecks (resume rechecks ds us c (frame.Function e ∷ fs) (tree_at us found.0)) spent
      (Ask (Infer (trees_at us c) (tree_at us product.0)) (resume rechecks ds us c new))
  told-reached on product new spent s hf at not g is =
      let P = tree_at us product.0 in
      subst (λ l. Leaves ds rechecks (resume rechecks ds us c (frame.Function e ∷ fs) (tree_at us found.0)) spent
      (Ask (Infer (trees_at us c) P) (resume rechecks ds us c l))) (sym is)
      (subst (λ p. Leaves ds rechecks (resume rechecks ds us c (frame.Function e ∷ fs) (tree_at us found.0)) spent p)
      (ap (λ r. and_then (recheck r (trees_at us c) P (applying us (trees_at us c) e.argument P)) (resume rechecks ds us c fs)) on)
      (reached-on product spent s hf at not g))

  pub told-unreached : (spent : ℕ) → Stays ts us → found.0 < length ts → Holds ts found.0 (tree_of_node ts n) → ((a b : LpId) → n ≡ node.Pi a b → ⊥)
      → Answered ds true (reach ds (tree_at ts found.0)) No spent
      → Leaves ds rechecks (resume rechecks ds us c (frame.Function e ∷ fs) (tree_at us found.0)) spent (Say No)
  told-unreached spent s hf at not g =
      let h = reached-answered rechecks ds (tree_at ts found.0) No spent g in
      subst (λ p. Leaves ds rechecks p spent (Say No)) (sym (through s hf at not))
      (leaves_no ds rechecks (reach ds (tree_at ts found.0)) _ h.price spent h.ends h.within)

  pub told-over : (left : ℕ) → Stays ts us → found.0 < length ts → Holds ts found.0 (tree_of_node ts n) → ((a b : LpId) → n ≡ node.Pi a b → ⊥)
      → IsOver ds true (reach ds (tree_at ts found.0)) left → (reply : Reply) (k : ℕ)
      → Ends ds rechecks (resume rechecks ds us c (frame.Function e ∷ fs) (tree_at us found.0)) reply k → left < k
  told-over left s hf at not h reply k ends = over_then ds rechecks (reach ds (tree_at ts found.0)) _ left
      (reached-over rechecks ds (tree_at ts found.0) left h) reply k (subst (λ p. Ends ds rechecks p reply k) (through s hf at not) ends)

-- the turn of a function whose type reaches a product, without rechecks of sorts, as that of the product
pub told-unchecked : (rechecks : Bool) → rechecks ≡ false
    → (m : Module) (ts : List Tree) (st t : State) (e : Application) (found product : LpId) (n : LpNode) (old mid : ℕ) (r : Next) → Stays ts m.table
    → found.0 < length ts → Holds ts found.0 (tree_of_node ts n) → ((a b : LpId) → n ≡ node.Pi a b → ⊥)
    → Answered (declarations_of m) true (reach (declarations_of m) (tree_at ts found.0)) (Found (tree_at m.table product.0)) (old - mid) → mid ≤ old
    → IsApplied rechecks m st product e.argument mid t r → IsTold rechecks m (frame.Function e) st found old mid t r
told-unchecked true off m ts st t e found product n old mid r s hf at not h le a = absurd (cc)
told-unchecked false off m ts st t e found product n old mid r s hf at not h le a =
    turned-from false m t r (old - mid) old mid mid
    (reached-on false (declarations_of m) ts m.table st.context st.frames e found n product (old - mid) s hf at not h) (omega (arith, le)) (omega arith) a

-- the turn of a product, to the argument
pub told-applied : (rechecks : Bool) (ds : List Declaration) (ts : List Tree) (c : List LpId) (fs : List Frame) (p a b : LpId) (e : Application)
    (new : List Frame) (spent : ℕ) → Holds ts p.0 (Pi (tree_at ts a.0) (tree_at ts b.0)) → IsApplication ts e → new ≡ met a b 0 e ∷ fs → spent ≤ 0
    → Leaves ds rechecks (and_then (applying ts (trees_at ts c) e.argument (tree_at ts p.0)) (resume rechecks ds ts c fs)) spent
    (Ask (Infer (trees_at ts c) (tree_at ts e.argument.0)) (resume rechecks ds ts c new))
told-applied rechecks ds ts c fs p a b e new spent h app is le =
    leaves_fewer ds rechecks le (leaves_equal ds rechecks (
    ap (λ t. and_then (applying ts (trees_at ts c) e.argument t) (resume rechecks ds ts c fs)) (Holds-tree_at ts p.0 _ h)
    ∙ ap₂ (λ A B. and_then (R A B) (resume rechecks ds ts c fs)) (sym (put_all_at-nil 0 (tree_at ts a.0))) (sym (put_all_at-nil 1 (tree_at ts b.0)))
    ∙ asked-argument rechecks ds ts c fs a b 0 e app
    ∙ ap (λ l. Ask (Infer (trees_at ts c) (tree_at ts e.argument.0)) (resume rechecks ds ts c l)) (sym is)))
  where
    R : Tree → Tree → Plan
    R A B = Ask (Infer (trees_at ts c) (tree_at ts e.argument.0)) (meeting (trees_at ts c) A B (tree_at ts e.argument.0))

-- and of what is no product
pub told-unapplied : (rechecks : Bool) (ds : List Declaration) (ts : List Tree) (c : List LpId) (fs : List Frame) (p x : LpId) (n : LpNode) (spent : ℕ)
    → Holds ts p.0 (tree_of_node ts n) → ((a b : LpId) → n ≡ node.Pi a b → ⊥) → spent ≤ 0
    → Leaves ds rechecks (and_then (applying ts (trees_at ts c) x (tree_at ts p.0)) (resume rechecks ds ts c fs)) spent (Say No)
told-unapplied rechecks ds ts c fs p x n spent h not le =
    leaves_fewer ds rechecks le
    (leaves_equal ds rechecks (ap (λ t. and_then (applying ts (trees_at ts c) x t) (resume rechecks ds ts c fs)) (Holds-tree_at ts p.0 _ h) ∙ go n not))
  where
    go : (n : LpNode) → ((a b : LpId) → n ≡ node.Pi a b → ⊥) → and_then (applying ts (trees_at ts c) x (tree_of_node ts n)) (resume rechecks ds ts c fs)
        ≡ Say No
    go (node.Pi a b) h = absurd (h a b refl)
    go node.SortType h = refl
    go node.SortKind h = refl
    go (node.Var n) h = refl
    go (node.Sym s) h = refl
    go (node.App f x) h = refl
    go (node.Lam a b) h = refl

-- the turn of a product that was reached and has a sort, as that of the product
pub told-sorted : (rechecks : Bool) (m : Module) (st t : State) (p : LpId) (e : Application) (found : LpId) (n : LpNode) (left : ℕ) (r : Next)
    → Holds m.table found.0 (tree_of_node m.table n) → (n ≡ node.SortType) ⊎ (n ≡ node.SortKind)
    → IsApplied rechecks m st p e.argument left t r → IsTold rechecks m (frame.Reached p e) st found left left t r
told-sorted rechecks m st t p e found n left r at sort h =
    let q = applying m.table (trees_at m.table st.context) e.argument (tree_at m.table p.0) in
    let rest = resume rechecks (declarations_of m) m.table st.context st.frames in
    turned-as rechecks m left left t r (ap (λ s. and_then (if_sort s q) rest) (Holds-tree_at m.table found.0 _ at)
    ∙ ap (λ p. and_then p rest) (sorted-on m.table n q sort)) h

-- the turn of a meeting of two types, without rechecks of sorts, as that of their conversion
pub told-met : (rechecks : Bool) → rechecks ≡ false → (m : Module) (st : State) (e : Argument) (found domain : LpId) (more old mid new : ℕ) (r : Next)
    → tree_at m.table domain.0 ≡ filled m.table e.domain e.count e.app.function
    → tree_eq (tree_at m.table domain.0) (tree_at m.table found.0) ≡ false → more ≡ suc e.count → old ≤ 1 + mid → new ≤ mid
    → IsConverted rechecks m (record { domain = domain; body = e.body; count = more; whole = e.app.whole; found = found }) mid new st r
    → IsTold rechecks m (frame.Argument e) st found old new st r
told-met rechecks off m st e found domain more old mid new r is q size lo ln h =
    turned-from rechecks m st r 1 old mid new (met-other rechecks (declarations_of m) m.table st.context st.frames off e found domain more is q size) lo ln h

-- the turn of a product's domain
pub told-product-domain : (rechecks : Bool) (ds : List Declaration) (ts : List Tree) (c : List LpId) (fs : List Frame) (a b found : LpId) (new : List Frame)
    (d : List LpId) (spent : ℕ) → Holds ts found.0 SortType → new ≡ frame.ProductBody ∷ fs → d ≡ a ∷ c → spent ≤ 0
    → Leaves ds rechecks (resume rechecks ds ts c (frame.ProductDomain a b ∷ fs) (tree_at ts found.0)) spent
    (Ask (Infer (trees_at ts d) (tree_at ts b.0)) (resume rechecks ds ts d new))
told-product-domain rechecks ds ts c fs a b found new d spent h is e le =
    leaves_fewer ds rechecks le (leaves_equal ds rechecks (
    ap (λ t. resume rechecks ds ts c (frame.ProductDomain a b ∷ fs) t) (Holds-tree_at ts found.0 _ h)
    ∙ ap₂ (λ k l. Ask (Infer (trees_at ts k) (tree_at ts b.0)) (resume rechecks ds ts k l)) (sym e) (sym is)))

-- no arguments are put in
pub filled-none : (ts : List Tree) (b : LpId) (k : ℕ) (f : LpId) → k ≡ 0 → IsFilled ts b k f ts b
filled-none ts b k f e = sym (ap (λ n. put_all (spine_args n (tree_at ts f.0)) (tree_at ts b.0)) e ∙ put_all-nil (tree_at ts b.0))
