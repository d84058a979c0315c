-- Turns that convert a found type to the expected one.
use Rattle.std.proofs.Common.{◌≡◌, ◌⊎◌, sym, ap, ◌∙◌, subst, ℕ, ◌<◌, length, List, Bool, true}
use Rattle.lp_spec.specs.Trees.{Tree}
use Rattle.std.proofs.Math.Path.{ap₂}
use Rattle.lp_spec.specs.Modules.{Declaration}
use Rattle.lp_term.specs.declared.LpId.{LpId}
use Rattle.lp_term.specs.declared.LpNode.{LpNode}
use Rattle.lp_term.specs.declared.LpNode.TheVariants as node
use Rattle.lp_term.specs.Tables.{tree_at, tree_of_node, Holds, Stays}
use Rattle.lp_term.specs.TableLaws.{Holds-tree_at, tree_at-Stays}
use Rattle.holide_sig.specs.declared.module.Module.{Module}
use Rattle.holide_sig.specs.Modules.{declarations_of}
use Rattle.lp_spec.specs.Check.{Convert, Reply, Found, No, Plan, Say, Ask, if_sort, Ends}
use Rattle.lp_check_laws.specs.PlanLaws.{and_then, Leaves, leaves_found, leaves_no, over_then}
use Rattle.lp_conv.specs.Answers.{Answered, IsOver, converting}
use Rattle.lp_conv.specs.AnswerLaws.{converting-Ends}
use Rattle.lp_kernel.specs.declared.state.Expected.{Expected}
use Rattle.lp_kernel.specs.declared.state.Frame.{Frame}
use Rattle.lp_kernel.specs.declared.state.Frame.TheVariants as frame
use Rattle.lp_kernel.specs.declared.state.Next.{Next}
use Rattle.lp_kernel.specs.declared.state.State.{State}
use Rattle.lp_kernel.specs.Pending.{filled, resume, IsKnownFrame, IsTold, IsConverted}
use Rattle.lp_kernel.proofs.Told.{sorted-on, turned-as}

module _ (rechecks : Bool) (ds : List Declaration) (ts us : List Tree) (s : Stays ts us) (c : List LpId) (fs : List Frame) (e : Expected)
    (known : IsKnownFrame ts (frame.Expected e)) where
  abbrev pub goes-on : Plan
  goes-on = resume rechecks ds us c fs (filled us e.body e.count e.whole)

  abbrev pub converts : Plan
  converts = Ask (Convert (tree_at us e.domain.0) (tree_at us e.found.0)) (λ _. goes-on)

  through : converts ≡ and_then (converting (tree_at ts e.domain.0) (tree_at ts e.found.0)) (λ _. goes-on)
  through = ap₂ (λ A X. Ask (Convert A X) (λ _. goes-on)) (sym (tree_at-Stays s e.domain.0 known.0)) (sym (tree_at-Stays s e.found.0 known.3))

  -- what conversion answers, with rechecks or without
  answered : (es : List Declaration) (reply : Reply) (spent : ℕ) → es ≡ ds
      → Answered es true (converting (tree_at ts e.domain.0) (tree_at ts e.found.0)) reply spent
      → Answered ds rechecks (converting (tree_at ts e.domain.0) (tree_at ts e.found.0)) reply spent
  answered es reply spent same g =
      let h = subst (λ d. Answered d true (converting (tree_at ts e.domain.0) (tree_at ts e.found.0)) reply spent) same g in
      record { price = h.price; ends = converting-Ends ds true rechecks (tree_at ts e.domain.0) (tree_at ts e.found.0) reply h.price h.ends; within = h.within }

  pub converted-yes : (es : List Declaration) (t : Tree) (spent : ℕ) → es ≡ ds
      → Answered es true (converting (tree_at ts e.domain.0) (tree_at ts e.found.0)) (Found t) spent → Leaves ds rechecks converts spent goes-on
  converted-yes es t spent same g =
      let h = answered es (Found t) spent same g in
      subst (λ p. Leaves ds rechecks p spent goes-on) (sym through)
      (leaves_found ds rechecks (converting (tree_at ts e.domain.0) (tree_at ts e.found.0)) (λ _. goes-on) t h.price spent h.ends h.within)

  pub converted-no : (es : List Declaration) (spent : ℕ) → es ≡ ds → Answered es true (converting (tree_at ts e.domain.0) (tree_at ts e.found.0)) No spent
      → Leaves ds rechecks converts spent (Say No)
  converted-no es spent same g =
      let h = answered es No spent same g in
      subst (λ p. Leaves ds rechecks p spent (Say No)) (sym through)
      (leaves_no ds rechecks (converting (tree_at ts e.domain.0) (tree_at ts e.found.0)) (λ _. goes-on) h.price spent h.ends h.within)

  pub converted-over : (es : List Declaration) (left : ℕ) → es ≡ ds → IsOver es true (converting (tree_at ts e.domain.0) (tree_at ts e.found.0)) left
      → (reply : Reply) (k : ℕ) → Ends ds rechecks converts reply k → left < k
  converted-over es left same h reply k ends =
      let over = subst (λ d. IsOver d true (converting (tree_at ts e.domain.0) (tree_at ts e.found.0)) left) same h in
      over_then ds rechecks (converting (tree_at ts e.domain.0) (tree_at ts e.found.0)) (λ _. goes-on) left
      (λ r n l. over r n (converting-Ends ds rechecks true (tree_at ts e.domain.0) (tree_at ts e.found.0) r n l)) reply k
      (subst (λ p. Ends ds rechecks p reply k) through ends)

-- the turn of an expected type that has a sort, as that of the conversion, in a table that has grown
pub told-expected : (rechecks : Bool) (m : Module) (ts : List Tree) (st : State) (e : Expected) (found : LpId) (n : LpNode) (old new : ℕ) (r : Next)
    → Stays ts m.table → found.0 < length ts → Holds ts found.0 (tree_of_node ts n) → (n ≡ node.SortType) ⊎ (n ≡ node.SortKind)
    → IsConverted rechecks m e old new st r → IsTold rechecks m (frame.Expected e) st found old new st r
told-expected rechecks m ts st e found n old new r s f at sort h =
    let p = Ask (Convert (tree_at m.table e.domain.0) (tree_at m.table e.found.0)) (λ _. Say (Found (filled m.table e.body e.count e.whole))) in
    let rest = resume rechecks (declarations_of m) m.table st.context st.frames in
    turned-as rechecks m old new st r
    (ap (λ t. and_then (if_sort t p) rest) (sym (tree_at-Stays s found.0 f) ∙ Holds-tree_at ts found.0 _ at)
    ∙ ap (λ q. and_then q rest) (sorted-on ts n p sort)) h
