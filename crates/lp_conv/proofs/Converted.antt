-- The turns of conversion, and what its loop keeps.
use Rattle.std.proofs.Common.{◌≡◌, refl, sym, ap, ◌∙◌, subst, ℕ, ◌+◌, ◌-◌, ◌<◌, ◌≤◌, arith, Bool, true, false, length, List, [], ◌∷◌, Option, Some, None}
use Rattle.std.specs.Prelude.{if◌then◌else◌, nat_eq}
use Rattle.std.proofs.Math.Path.{fun_ext, ap₂}
use Rattle.std.proofs.lemmas.Bool.{eqb-true}
use Rattle.lp_spec.specs.Trees.{Tree, tree_eq}
use Rattle.lp_binding_laws.specs.TreeEquality.{tree_eq-refl, tree_eq-true}
use Rattle.lp_spec.specs.Modules.{Declaration}
use Rattle.lp_term.specs.declared.LpId.{LpId}
use Rattle.lp_term.specs.declared.LpNode.{LpNode}
use Rattle.lp_term.specs.declared.LpNode.TheVariants as node
use Rattle.lp_term.specs.Tables.{tree_at, tree_of_node, Holds, Stays, Keeps, IsDistinct}
use Rattle.lp_term.specs.TableLaws.{Holds-tree_at, tree_at-Holds, tree_at-Stays}
use Rattle.holide_sig.specs.declared.module.Module.{Module}
use Rattle.holide_sig.specs.Modules.{declarations_of, IsHeld}
use Rattle.lp_spec.specs.HeadSteps.{head_step}
use Rattle.lp_spec.specs.Check.{Convert, Reply, Found, No, Plan, Say, Ask, convert, convert_by, convert_parts, Ends, said, refused, asked}
use Rattle.lp_check_laws.specs.PlanLaws.{and_then, Leaves, leaves_all, leaves_equal, leaves_then, leaves_fewer, leaves_ask, over_leaves}
use Rattle.lp_conv.specs.declared.conversion.Left.{Left}
use Rattle.lp_conv.specs.declared.conversion.Left.TheVariants as left
use Rattle.lp_conv.specs.declared.Answer.TheVariants as answer
use Rattle.lp_conv.specs.Growth.{Grows}
use Rattle.lp_conv.specs.Answers.{converting, IsAnswered, AreConvertible}
use Rattle.lp_conv.specs.AnswerLaws.{converting-Conv}
use Rattle.lp_conv.specs.Conversion.{plan_of, IsKnownLeft, parts_of}
use Rattle.lp_conv.specs.GrowthLaws.{Grows-refl, Grows-trans, IsHeld-Grows, declarations_of-Grows}

-- numbers that are equal, and numbers that are not
same-tree : (ts : List Tree) (e f : LpId) → true ≡ nat_eq e.0 f.0 → tree_eq (tree_at ts e.0) (tree_at ts f.0) ≡ true
same-tree ts e f h = subst (λ t. tree_eq (tree_at ts e.0) t ≡ true) (ap (tree_at ts) (eqb-true e.0 f.0 (sym h))) (tree_eq-refl (tree_at ts e.0))

other-tree : (ts : List Tree) (e f : LpId) → IsDistinct ts → e.0 < length ts → f.0 < length ts → false ≡ nat_eq e.0 f.0
    → tree_eq (tree_at ts e.0) (tree_at ts f.0) ≡ false
other-tree ts e f d he hf h = go (tree_eq (tree_at ts e.0) (tree_at ts f.0)) refl
  where
    go : (b : Bool) → tree_eq (tree_at ts e.0) (tree_at ts f.0) ≡ b → b ≡ false
    go false q = refl
    go true q =
        let p = d.each e.0 f.0 (tree_at ts f.0) (tree_at-Holds ts e.0 he ∙ ap Some (tree_eq-true _ _ q)) (tree_at-Holds ts f.0 hf) in
        let r = ap (λ n. nat_eq e.0 n) p in
        absurd (grind arith)

module _ (ds : List Declaration) (E F : Tree) where
  equal-plan : tree_eq E F ≡ true → Say (Found E) ≡ convert ds E F
  equal-plan e = ap (λ b. if b then Say (Found E) else convert_by E F (head_step ds E) (head_step ds F)) (sym e)

  other-plan : (o u : Option Tree) → tree_eq E F ≡ false → head_step ds E ≡ o → head_step ds F ≡ u → convert_by E F o u ≡ convert ds E F
  other-plan o u e h k = ap₂ (convert_by E F) (sym h) (sym k) ∙ ap (λ b. if b then Say (Found E) else convert_by E F (head_step ds E) (head_step ds F)) (sym e)

-- a turn of one tree with itself
pub turn-same : (ds : List Declaration) (ts : List Tree) (e f : LpId) → true ≡ nat_eq e.0 f.0 → Say (Found (tree_at ts e.0))
    ≡ convert ds (tree_at ts e.0) (tree_at ts f.0)
turn-same ds ts e f h = equal-plan ds (tree_at ts e.0) (tree_at ts f.0) (same-tree ts e f h)

-- a turn with a head step on the left
pub turn-left : (ds : List Declaration) (ts us : List Tree) (e f g : LpId) → IsDistinct ts → e.0 < length ts → f.0 < length ts → false ≡ nat_eq e.0 f.0
    → Stays ts us → Some (tree_at us g.0) ≡ head_step ds (tree_at ts e.0)
    → Ask (Convert (tree_at us g.0) (tree_at us f.0)) (λ _. Say (Found (tree_at ts e.0))) ≡ convert ds (tree_at ts e.0) (tree_at ts f.0)
turn-left ds ts us e f g d he hf h s is =
    ap (λ t. Ask (Convert (tree_at us g.0) t) (λ _. Say (Found (tree_at ts e.0)))) (sym (tree_at-Stays s f.0 hf))
    ∙ other-plan ds (tree_at ts e.0) (tree_at ts f.0) (Some (tree_at us g.0)) (head_step ds (tree_at ts f.0)) (other-tree ts e f d he hf h) (sym is) refl

-- a turn with a head step on the right
pub turn-right : (ds as' : List Declaration) (ts us ws : List Tree) (e f g : LpId) → IsDistinct ts → e.0 < length ts → f.0 < length ts → false ≡ nat_eq e.0 f.0
    → Stays ts us → Stays us ws → None ≡ head_step ds (tree_at ts e.0) → as' ≡ ds → Some (tree_at ws g.0) ≡ head_step as' (tree_at us f.0)
    → Ask (Convert (tree_at ws e.0) (tree_at ws g.0)) (λ _. Say (Found (tree_at ts e.0))) ≡ convert ds (tree_at ts e.0) (tree_at ts f.0)
turn-right ds as' ts us ws e f g d he hf h s t none same is =
    let stays : Stays ts ws = record { each = λ i u a. t.each i u (s.each i u a) } in
    ap (λ u. Ask (Convert u (tree_at ws g.0)) (λ _. Say (Found (tree_at ts e.0)))) (sym (tree_at-Stays stays e.0 he))
    ∙ other-plan ds (tree_at ts e.0) (tree_at ts f.0) None (Some (tree_at ws g.0)) (other-tree ts e f d he hf h) (sym none)
    (ap (head_step ds) (tree_at-Stays s f.0 hf) ∙ ap (λ d. head_step d (tree_at us f.0)) (sym same) ∙ sym is)

parts-plan : (ts : List Tree) (n k : LpNode) → plan_of ts (tree_of_node ts n) (parts_of n k) ≡ convert_parts (tree_of_node ts n) (tree_of_node ts k)
parts-plan ts (node.App g x) (node.App h y) = refl
parts-plan ts (node.Lam g x) (node.Lam h y) = refl
parts-plan ts (node.Pi g x) (node.Pi h y) = refl
parts-plan ts _ _ = refl

-- a turn of the parts
pub turn-parts : (ds as' : List Declaration) (ts us ws : List Tree) (e f : LpId) (n k : LpNode) (l : Left) → IsDistinct ts → e.0 < length ts → f.0 < length ts
    → false ≡ nat_eq e.0 f.0 → Stays ts us → Stays us ws → None ≡ head_step ds (tree_at ts e.0) → as' ≡ ds → None ≡ head_step as' (tree_at us f.0)
    → Holds ws e.0 (tree_of_node ws n) → Holds ws f.0 (tree_of_node ws k) → l ≡ parts_of n k → plan_of ws (tree_at ts e.0) l
    ≡ convert ds (tree_at ts e.0) (tree_at ts f.0)
turn-parts ds as' ts us ws e f n k l d he hf h s t none same nil at to is =
    let stays : Stays ts ws = record { each = λ i u a. t.each i u (s.each i u a) } in
    let E = tree_at-Stays stays e.0 he ∙ Holds-tree_at ws e.0 _ at in
    let F = tree_at-Stays stays f.0 hf ∙ Holds-tree_at ws f.0 _ to in
    ap₂ (plan_of ws) E is ∙ parts-plan ws n k ∙ ap₂ convert_parts (sym E) (sym F)
    ∙ other-plan ds (tree_at ts e.0) (tree_at ts f.0) None None (other-tree ts e f d he hf h) (sym none)
    (ap (head_step ds) (tree_at-Stays s f.0 hf) ∙ ap (λ d. head_step d (tree_at us f.0)) (sym same) ∙ sym nil)

-- what is pending of pairs
abbrev pub pend : List Tree → Tree → List (LpId × LpId) → Plan
pend ts E [] = Say (Found E)
pend ts E (p ∷ ps) = Ask (Convert (tree_at ts p.0.0) (tree_at ts p.1.0)) (λ _. pend ts E ps)

abbrev pub ArePairs : List Tree → List (LpId × LpId) → Type 0
ArePairs ts [] = Unit {0}
ArePairs ts (p ∷ ps) = (p.0.0 < length ts) × (p.1.0 < length ts) × ArePairs ts ps

pend-stays : {ts us : List Tree} → Stays ts us → (E : Tree) (ps : List (LpId × LpId)) → ArePairs ts ps → pend us E ps ≡ pend ts E ps
pend-stays s E [] h = refl
pend-stays s E (p ∷ ps) h = ap₂ Ask (ap₂ Convert (sym (tree_at-Stays s p.0.0 h.0)) (sym (tree_at-Stays s p.1.0 h.1))) (fun_ext (λ _. pend-stays s E ps h.2))

pairs-more : {ts us : List Tree} → Keeps ts us → (ps : List (LpId × LpId)) → ArePairs ts ps → ArePairs us ps
pairs-more k [] h = tt
pairs-more k (p ∷ ps) h = (omega (arith, k.longer, h.0), omega (arith, k.longer, h.1), pairs-more k ps h.2)

-- the pairs after a turn
abbrev pub pushed : Left → List (LpId × LpId) → List (LpId × LpId)
pushed left.Nothing rest = rest
pushed (left.One g h) rest = (g, h) ∷ rest
pushed (left.Two g h x y) rest = (g, h) ∷ (x, y) ∷ rest
pushed left.Differs rest = rest

-- the pairs that are left at each turn of the loop are what the question leaves
pub record IsConvert (from : Module) (e f : LpId) (all : ℕ) (m : Module) (here : ℕ) (ps : List (LpId × LpId)) : Type 0 where
  pub grows : Grows from m
  pub held : IsHeld m
  pub declared : declarations_of m ≡ declarations_of from
  pub known : ArePairs m.table ps
  pub less : here ≤ all
  pub left : Leaves (declarations_of from) true (converting (tree_at from.table e.0) (tree_at from.table f.0)) (all - here)
      (pend m.table (tree_at from.table e.0) ps)

pub start-convert : (m : Module) (e f : LpId) (all : ℕ) (ps : List (LpId × LpId)) → IsHeld m → e.0 < length m.table → f.0 < length m.table → ps ≡ (e, f) ∷ []
    → IsConvert m e f all m all ps
start-convert m e f all ps held he hf q =
    subst (IsConvert m e f all m all) (sym q)
    (record {
      grows = Grows-refl m;
      held = held;
      declared = refl;
      known = (he, hf, tt);
      less = omega arith;
      left = let z : all - all ≤ 0 = omega arith in leaves_fewer (declarations_of m) true z
          (leaves_all (declarations_of m) true (converting (tree_at m.table e.0) (tree_at m.table f.0)));
    })

-- a turn of the pair on top
module _ (from : Module) (e f : LpId) (all : ℕ) (m k : Module) (here there : ℕ) (a b : LpId) (ps rest : List (LpId × LpId)) (l : Left)
    (s : IsConvert from e f all m here ps) (q : ps ≡ (a, b) ∷ rest) (g : Grows m k)
    (is : plan_of k.table (tree_at m.table a.0) l ≡ convert (declarations_of m) (tree_at m.table a.0) (tree_at m.table b.0)) (ticked : there + 1 ≡ here) where
  abbrev pub E : Tree
  E = tree_at from.table e.0

  top : IsConvert from e f all m here ((a, b) ∷ rest)
  top = subst (IsConvert from e f all m here) q s

  -- what the turn leaves
  turned : (t : Plan) → and_then (plan_of k.table (tree_at m.table a.0) l) (λ _. pend m.table E rest) ≡ t
      → Leaves (declarations_of from) true (converting E (tree_at from.table f.0)) (all - there) t
  turned t w =
      let ds = declarations_of from in
      let le : all - there ≤ all - here + (1 + 0) = omega (arith, ticked, s.less) in
      let plan = subst (λ ds. plan_of k.table (tree_at m.table a.0) l ≡ convert ds (tree_at m.table a.0) (tree_at m.table b.0)) s.declared is in
      leaves_fewer ds true le (leaves_then ds true top.left
      (leaves_then ds true (leaves_ask ds true (Convert (tree_at m.table a.0) (tree_at m.table b.0)) (λ _. pend m.table E rest))
      (leaves_equal ds true (ap (λ p. and_then p (λ _. pend m.table E rest)) (sym plan) ∙ w))))

  leaves-pairs : (l : Left) → (l ≡ left.Differs → ⊥) → and_then (plan_of k.table (tree_at m.table a.0) l) (λ _. pend m.table E rest)
      ≡ pend k.table E (pushed l rest)
  leaves-pairs left.Nothing n = sym (pend-stays g.keeps.stays E rest top.known.2)
  leaves-pairs (left.One x y) n = ap (λ p. Ask (Convert (tree_at k.table x.0) (tree_at k.table y.0)) (λ _. p))
      (sym (pend-stays g.keeps.stays E rest top.known.2))
  leaves-pairs (left.Two x y z w) n = ap
      (λ p. Ask (Convert (tree_at k.table x.0) (tree_at k.table y.0)) (λ _. Ask (Convert (tree_at k.table z.0) (tree_at k.table w.0)) (λ _. p)))
      (sym (pend-stays g.keeps.stays E rest top.known.2))
  leaves-pairs left.Differs n = absurd (n refl)

  known-pairs : (l : Left) → IsKnownLeft k.table l → ArePairs k.table (pushed l rest)
  known-pairs left.Nothing h = pairs-more g.keeps rest top.known.2
  known-pairs (left.One x y) h = (h.0, h.1, pairs-more g.keeps rest top.known.2)
  known-pairs (left.Two x y z w) h = (h.0, h.1, (h.2, h.3, pairs-more g.keeps rest top.known.2))
  known-pairs left.Differs h = pairs-more g.keeps rest top.known.2

  -- the loop goes on with what the turn leaves
  pub next-convert : (r : Left) (new : List (LpId × LpId)) → IsKnownLeft k.table l → l ≡ r → (r ≡ left.Differs → ⊥) → new ≡ pushed r rest
      → IsConvert from e f all k there new
  next-convert r new h lr n ew =
      let w : pushed l rest ≡ new = ap (λ v. pushed v rest) lr ∙ sym ew in
      record {
        grows = Grows-trans s.grows g;
        held = IsHeld-Grows m k g s.held;
        declared = declarations_of-Grows m k g s.held ∙ s.declared;
        known = subst (ArePairs k.table) w (known-pairs l h);
        less = omega (arith, ticked, s.less);
        left = turned (pend k.table E new) (leaves-pairs l (λ d. n (sym lr ∙ d)) ∙ ap (pend k.table E) w);
      }

  -- it ends where the trees differ
  pub differs-end : l ≡ left.Differs → IsAnswered from e f all there answer.No
  differs-end d =
      let p = turned (Say No) (ap (λ v. and_then (plan_of k.table (tree_at m.table a.0) v) (λ _. pend m.table E rest)) d) in
      let u = p.up No 0 said in
      record { price = u.0; ends = u.1; within = omega (arith, u.2) }

module _ (from : Module) (e f : LpId) (all : ℕ) (m : Module) (here : ℕ) where
  -- it ends where the budget is spent
  pub spent-end : (p : LpId × LpId) (ps rest : List (LpId × LpId)) → IsConvert from e f all m here ps → ps ≡ p ∷ rest → here ≡ 0
      → IsAnswered from e f all here answer.Over
  spent-end p ps rest s q z =
      let top = subst (IsConvert from e f all m here) q s in
      over_leaves (declarations_of from) true top.left (omega (arith, s.less, z)) (λ reply n h. positive h)
    where
      positive : {reply : Reply} {n : ℕ} → Ends (declarations_of from) true (pend m.table (tree_at from.table e.0) (p ∷ rest)) reply n → 0 < n
      positive (refused h) = omega arith
      positive (asked h g) = omega arith

  -- it ends where no pair is left
  pub done-end : (ps : List (LpId × LpId)) → IsConvert from e f all m here ps → ps ≡ [] → IsAnswered from e f all here answer.Yes
  done-end ps s q =
      let top = subst (IsConvert from e f all m here) q s in
      let u = top.left.up (Found (tree_at from.table e.0)) 0 said in
      record { price = u.0; ends = u.1; within = omega (arith, u.2) }

  -- and the trees are convertible
  pub done-sound : (ps : List (LpId × LpId)) → IsConvert from e f all m here ps → ps ≡ [] → AreConvertible from e f
  done-sound ps s q = let d = done-end ps s q in converting-Conv (declarations_of from) true (tree_at from.table e.0) (tree_at from.table f.0)
      (tree_at from.table e.0) d.price d.ends
