-- The check of a declaration.
use Rattle.std.proofs.Common.{◌≡◌, refl, sym, ap, ◌∙◌, subst, ℕ, ◌-◌, ◌≤◌, arith, true, List, [], Option, Some, None, Bool}
use Rattle.std.specs.Prelude.{slice_get, take, option_map}
use Rattle.std.proofs.lemmas.Option.{slice_get-map}
use Rattle.lp_spec.specs.Trees.{Tree, SortType}
use Rattle.lp_spec.specs.Modules.{Declaration, signature}
use Rattle.lp_spec.specs.ModuleOrder.{IsModule}
use Rattle.lp_term.specs.declared.LpId.{LpId}
use Rattle.lp_term.specs.declared.LpNode.{LpNode}
use Rattle.lp_term.specs.declared.LpNode.TheVariants as node
use Rattle.lp_term.specs.Tables.{tree_at, tree_of_node, Holds, Stays, Keeps}
use Rattle.lp_term.specs.TableLaws.{Holds-tree_at, tree_at-Stays}
use Rattle.holide_sig.specs.declared.decls.Decl.{Decl}
use Rattle.holide_sig.specs.declared.module.Module.{Module}
use Rattle.holide_sig.specs.Modules.{declaration_in, declarations_of, IsBodyKnown, IsKnown, IsHeld}
use Rattle.holide_sig.specs.ModuleLaws.{AreDeclsKnown-slice_get, IsKnown-Keeps}
use Rattle.lp_conv.specs.Growth.{Grows}
use Rattle.lp_conv.specs.GrowthLaws.{declarations_of-Grows}
use Rattle.lp_spec.specs.Check.{Infer, Found, No, Plan, Say, Ask, said, if_type, body_plan, declaration_plan}
use Rattle.lp_check_laws.specs.CheckerLaw.{HasBody-IsBodyOver}
use Rattle.lp_fast_laws.specs.FastPrices.{check-made, check-ends}
use Rattle.lp_fast_laws.specs.FastModules.{check-typed}
use Rattle.lp_check_laws.specs.EarlierDeclarations.{declaration_plan-whole, MayFollow-at}
use Rattle.lp_check_laws.specs.PlanLaws.{Leaves, leaves_found, leaves_no, over_then, over_leaves}
use Rattle.lp_conv.specs.Answers.{converting, IsAnswered}
use Rattle.lp_conv.specs.AnswerLaws.{converting-Ends}
use Rattle.lp_conv.specs.HeadSteps.{tree_if}
use Rattle.lp_conv.specs.declared.Answer.{Answer}
use Rattle.lp_conv.specs.declared.Answer.TheVariants as answer
use Rattle.lp_kernel.specs.declared.inference.Inferred.TheVariants as inferred
use Rattle.lp_kernel.specs.Inference.{typing, IsFound, IsInferred}
use Rattle.lp_kernel.specs.Checks.{IsReplied, IsChecked, IsTypedAt}

module _ (rechecks : Bool) (ds : List Declaration) (ts : List Tree) (t E : Tree) (rest : Tree → Plan) (old mid : ℕ) where
  -- a plan that goes on with the type that was found
  pub found-replied : (A : LpId) (new : ℕ) (a : Answer) → mid ≤ old → new ≤ mid → IsFound rechecks ds ts (typing [] t) old mid (inferred.Found A)
      → IsReplied rechecks ds (rest (tree_at ts A.0)) E mid new a → IsReplied rechecks ds (Ask (Infer [] t) rest) E old new a
  found-replied A new a lo ln h r = go a r
    where
      left : Leaves ds rechecks (Ask (Infer [] t) rest) (old - mid) (rest (tree_at ts A.0))
      left = leaves_found ds rechecks (typing [] t) rest (tree_at ts A.0) h.price (old - mid) h.ends h.within

      go : (a : Answer) → IsReplied rechecks ds (rest (tree_at ts A.0)) E mid new a → IsReplied rechecks ds (Ask (Infer [] t) rest) E old new a
      go answer.Yes r = let u = left.up (Found E) r.price r.ends in record { price = u.0; ends = u.1; within = omega (arith, u.2, r.within, lo, ln) }
      go answer.No r = let u = left.up No r.price r.ends in record { price = u.0; ends = u.1; within = omega (arith, u.2, r.within, lo, ln) }
      go answer.Over r = over_leaves ds rechecks left (omega (arith, lo)) r

  -- a plan whose type isn't found
  pub no-replied : IsFound rechecks ds ts (typing [] t) old mid inferred.No → IsReplied rechecks ds (Ask (Infer [] t) rest) E old mid answer.No
  no-replied h = let u = (leaves_no ds rechecks (typing [] t) rest h.price (old - mid) h.ends h.within).up No 0 said in record
      { price = u.0; ends = u.1; within = omega (arith, u.2) }

  -- a plan whose type isn't found within the budget
  pub over-replied : IsFound rechecks ds ts (typing [] t) old mid inferred.Over → IsReplied rechecks ds (Ask (Infer [] t) rest) E old mid answer.Over
  over-replied h = over_then ds rechecks (typing [] t) rest old h

-- a plan that says what it has, at once
pub said-replied : (rechecks : Bool) (ds : List Declaration) (E : Tree) (left : ℕ) → IsReplied rechecks ds (Say (Found E)) E left left answer.Yes
said-replied rechecks ds E left = record { price = 0; ends = said; within = omega arith }

pub said-no : (rechecks : Bool) (ds : List Declaration) (E : Tree) (left : ℕ) → IsReplied rechecks ds (Say No) E left left answer.No
said-no rechecks ds E left = record { price = 0; ends = said; within = omega arith }

-- what conversion answers, in a module that has grown
pub converted-replied : (rechecks : Bool) (ds : List Declaration) (m : Module) (e f : LpId) (E : Tree) (old new : ℕ) (a : Answer) → declarations_of m ≡ ds
    → tree_at m.table e.0 ≡ E → IsAnswered m e f old new a → IsReplied rechecks ds (converting E (tree_at m.table f.0)) E old new a
converted-replied rechecks ds m e f E old new a same is h =
    subst (λ D. IsReplied rechecks D (converting E (tree_at m.table f.0)) E old new a) same
    (subst (λ T. IsReplied rechecks (declarations_of m) (converting T (tree_at m.table f.0)) T old new a) is (go a h))
  where
    go : (a : Answer) → IsAnswered m e f old new a
        → IsReplied rechecks (declarations_of m) (converting (tree_at m.table e.0) (tree_at m.table f.0)) (tree_at m.table e.0) old new a
    go answer.Yes h = record {
      price = h.price;
      ends = converting-Ends (declarations_of m) true rechecks (tree_at m.table e.0) (tree_at m.table f.0) _ h.price h.ends;
      within =
          h.within;
    }
    go answer.No h = record {
      price = h.price;
      ends = converting-Ends (declarations_of m) true rechecks (tree_at m.table e.0) (tree_at m.table f.0) _ h.price h.ends;
      within =
          h.within;
    }
    go answer.Over h = λ reply n k. h reply n (converting-Ends (declarations_of m) rechecks true (tree_at m.table e.0) (tree_at m.table f.0) reply n k)

-- what a body's check answers, over a table that has grown
pub body-replied : (rechecks : Bool) (ds es : List Declaration) (E G : Tree) (b c : Option Tree) (old new : ℕ) (a : Answer) → es ≡ ds → G ≡ E → c ≡ b
    → IsReplied rechecks es (body_plan G c) G old new a → IsReplied rechecks ds (body_plan E b) E old new a
body-replied rechecks ds es E G b c old new a same e f h =
    subst (λ D. IsReplied rechecks D (body_plan E b) E old new a) same
    (subst (λ T. IsReplied rechecks es (body_plan T b) T old new a) e (subst (λ o. IsReplied rechecks es (body_plan G o) G old new a) f h))

-- a body's tree stays
pub body-stays : {ts us : List Tree} → Stays ts us → (b : Option LpId) → IsBodyKnown ts b → tree_if us b ≡ option_map (λ id. tree_at ts id.0) b
body-stays s None h = refl
body-stays s (Some id) h = ap Some (sym (tree_at-Stays s id.0 h))

-- what goes on after the sort of types, and after what isn't
pub if_type-SortType : (ts : List Tree) (id : LpId) (rest : Plan) → Holds ts id.0 SortType → rest ≡ if_type (tree_at ts id.0) rest
if_type-SortType ts id rest at = ap (λ s. if_type s rest) (sym (Holds-tree_at ts id.0 SortType at))

pub if_type-other : (ts : List Tree) (id : LpId) (n : LpNode) (rest : Plan) → Holds ts id.0 (tree_of_node ts n) → (n ≡ node.SortType → ⊥) → Say No
    ≡ if_type (tree_at ts id.0) rest
if_type-other ts id n rest at not = go n not ∙ ap (λ s. if_type s rest) (sym (Holds-tree_at ts id.0 _ at))
  where
    go : (n : LpNode) → (n ≡ node.SortType → ⊥) → Say No ≡ if_type (tree_of_node ts n) rest
    go node.SortType not = absurd (not refl)
    go node.SortKind not = refl
    go (node.Var k) not = refl
    go (node.Sym s) not = refl
    go (node.App f x) not = refl
    go (node.Lam a b) not = refl
    go (node.Pi a b) not = refl

-- the declaration at a place
pub declared-at : (m : Module) (i : ℕ) (d : Decl) → slice_get m.decls i ≡ Some d → slice_get (declarations_of m) i ≡ Some (declaration_in m.table d)
declared-at m i d at = slice_get-map (declaration_in m.table) m.decls i ∙ ap (option_map (declaration_in m.table)) at

-- what is known of a declaration of the module
pub decl-known : (m : Module) (i : ℕ) (d : Decl) → IsHeld m → slice_get m.decls i ≡ Some d → IsKnown m.table d
decl-known m i d held at = AreDeclsKnown-slice_get m.table m.decls i d held.decls at

pub body-known : {ts us : List Tree} → Keeps ts us → (d : Decl) → IsKnown ts d → IsBodyKnown us d.body
body-known k d h = (IsKnown-Keeps k d h).body

module _ (rechecks : Bool) (ds : List Declaration) (a : IsModule ds) (i : ℕ) (d : Declaration) (at : slice_get ds i ≡ Some d) (old new : ℕ) where
  -- the answer over the whole module is that over the declarations before
  pub replied-checked : (r : Answer) → IsReplied rechecks ds (declaration_plan d) d.ty old new r → IsChecked rechecks ds i old new r
  replied-checked answer.Yes h = record {
    found = d.ty;
    price = h.price;
    by = check-made ds i rechecks (Found d.ty) h.price d at ((declaration_plan-whole ds a i d at rechecks (Found d.ty) h.price).0 h.ends);
    within = h.within;
  }
  replied-checked answer.No h = record
      { price = h.price; by = check-made ds i rechecks No h.price d at ((declaration_plan-whole ds a i d at rechecks No h.price).0 h.ends); within = h.within }
  replied-checked answer.Over h = λ reply n c. h reply n ((declaration_plan-whole ds a i d at rechecks reply n).1 (check-ends ds i rechecks reply n d at c))

  -- a declaration that passes is typed
  pub replied-typed : IsReplied rechecks ds (declaration_plan d) d.ty old new answer.Yes → IsTypedAt ds i
  replied-typed h = record {
    declaration = d;
    at = at;
    typed = λ w.
        check-typed rechecks (take i ds) w d d.ty h.price (HasBody-IsBodyOver _ d.form d.body (MayFollow-at signature ds i d a at).body)
        ((declaration_plan-whole ds a i d at rechecks (Found d.ty) h.price).0 h.ends);
  }

module _ (rechecks : Bool) (m k : Module) (g : Grows m k) (held : IsHeld m) (i : ℕ) (d : Decl) (at : slice_get m.decls i ≡ Some d) (sort : LpId) (old mid : ℕ)
    (le : mid ≤ old) (h : IsInferred rechecks m [] d.ty k.table old mid (inferred.Found sort)) where
  -- the declaration by number, as a tree
  abbrev pub D : Declaration
  D = declaration_in m.table d

  -- what a declaration's check answers, where its type has the sort of types
  pub sorted-replied : Holds k.table sort.0 SortType → (new : ℕ) (a : Answer) → new ≤ mid → (by : Bool) → by ≡ rechecks
      → IsReplied by (declarations_of k) (body_plan (tree_at k.table d.ty.0) (tree_if k.table d.body)) (tree_at k.table d.ty.0) mid new a
      → IsReplied rechecks (declarations_of m) (declaration_plan D) D.ty old new a
  sorted-replied is new a ln by same replied =
      let r = subst (λ b. IsReplied b (declarations_of k) (body_plan (tree_at k.table d.ty.0) (tree_if k.table d.body)) (tree_at k.table d.ty.0) mid new a) same
      replied in
      let known = decl-known m i d held at in
      let E = tree_at m.table d.ty.0 in
      let body = body-replied rechecks (declarations_of m) (declarations_of k) E (tree_at k.table d.ty.0) D.body (tree_if k.table d.body) mid new a
      (declarations_of-Grows m k g held) (sym (tree_at-Stays g.keeps.stays d.ty.0 known.ty)) (body-stays g.keeps.stays d.body known.body) r in
      found-replied rechecks (declarations_of m) k.table E E (λ s. if_type s (body_plan E D.body)) old mid sort new a le ln h
      (subst (λ p. IsReplied rechecks (declarations_of m) p E mid new a) (if_type-SortType k.table sort (body_plan E D.body) is) body)

  -- and where it has not
  pub unsorted-replied : (n : LpNode) → Holds k.table sort.0 (tree_of_node k.table n) → (n ≡ node.SortType → ⊥)
      → IsReplied rechecks (declarations_of m) (declaration_plan D) D.ty old mid answer.No
  unsorted-replied n is not =
      let E = tree_at m.table d.ty.0 in
      let z : mid ≤ mid = omega arith in
      found-replied rechecks (declarations_of m) k.table E E (λ s. if_type s (body_plan E D.body)) old mid sort mid answer.No le z h
      (subst (λ p. IsReplied rechecks (declarations_of m) p E mid mid answer.No) (if_type-other k.table sort n (body_plan E D.body) is not)
      (said-no rechecks (declarations_of m) E mid))

-- the answer of a declaration's check, over those before it
pub plan-checked : (rechecks : Bool) (m : Module) → IsModule (declarations_of m) → (i : ℕ) (d : Decl) → slice_get m.decls i ≡ Some d
    → (old new : ℕ) (r : Answer) → IsReplied rechecks (declarations_of m) (declaration_plan (declaration_in m.table d)) (tree_at m.table d.ty.0) old new r
    → IsChecked rechecks (declarations_of m) i old new r
plan-checked rechecks m a i d at old new r h = replied-checked rechecks (declarations_of m) a i (declaration_in m.table d) (declared-at m i d at) old new r h

pub plan-typed : (rechecks : Bool) (m : Module) → IsModule (declarations_of m) → (i : ℕ) (d : Decl) → slice_get m.decls i ≡ Some d → (old new : ℕ) (r : Answer)
    → IsReplied rechecks (declarations_of m) (declaration_plan (declaration_in m.table d)) (tree_at m.table d.ty.0) old new r → r ≡ answer.Yes
    → IsTypedAt (declarations_of m) i
plan-typed rechecks m a i d at old new answer.Yes h e =
    replied-typed rechecks (declarations_of m) a i (declaration_in m.table d) (declared-at m i d at) old new h
plan-typed rechecks m a i d at old new answer.No h e = absurd (cc)
plan-typed rechecks m a i d at old new answer.Over h e = absurd (cc)
