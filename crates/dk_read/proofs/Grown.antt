-- What stays where the table of a reading grows, or its names do.
use Rattle.std.proofs.Common.{inl, inr, ◌⊎◌, ◌≡◌, ℕ, zero, suc, refl, sym, ap, subst, ◌∙◌, List, [], ◌∷◌, ◌++◌, reverse, length, slice_get, Option, None, Some, arith}
use Rattle.std.specs.Prelude.{◌<◌, slice_set, unwrap_or}
use Rattle.lp_spec.specs.Trees.{Tree, Var, Sym}
use Rattle.std.proofs.lemmas.Option.{same_Some}
use Rattle.lp_spec.specs.Modules.{Declaration, signature}
use Rattle.lp_spec.specs.ModuleOrder.{IsModule}
use Rattle.lp_spec.specs.Reading.{Scope}
use Rattle.lp_spec.specs.ReadingFaults as reading
use Rattle.lp_term.specs.declared.LpId.{LpId}
use Rattle.lp_term.specs.Tables.{Holds, Keeps}
use Rattle.lp_term.specs.TableLaws.{tree_at-Stays, Keeps-refl, Keeps-trans}
use Rattle.holide_sig.specs.declared.module.Module.{Module}
use Rattle.holide_sig.specs.Modules.{declarations_of}
use Rattle.holide_sig.specs.ModuleLaws.{IsHeld-Keeps, declarations_of-Keeps}
use Rattle.dk_read.specs.declared.terms.Meaning.{Meaning}
use Rattle.dk_read.specs.declared.terms.Frame.{Frame}
use Rattle.dk_read.specs.declared.terms.Frame.TheVariants as frame
use Rattle.dk_read.specs.declared.terms.Atoms.{Atoms}
use Rattle.dk_read.specs.declared.terms.Head.{Head}
use Rattle.dk_read.specs.declared.terms.Head.TheVariants as head
use Rattle.dk_read.specs.declared.terms.State.{State}
use Rattle.dk_read.specs.declared.terms.State.TheVariants as state
use Rattle.dk_read.specs.declared.parser.Parser.{Parser}
use Rattle.dk_read.specs.Names.{Named, name_at, looked, bound}
use Rattle.dk_read.specs.Names as naming
use Rattle.dk_read.specs.States.{tree_in, frame_in, frames_in, head_in, state_in, IsIdKnown, IsBinding, IsFrameKnown, AreFramesKnown, AreOf, AreOfSymbols, AreAtoms, IsHeadKnown, IsStateKnown, IsSoundIn, IsSound, Grows}

module _ (old new : List Tree) (k : Keeps old new) (ns ms : List Named) (j : naming.Keeps ns ms) where
  pub tree_in-Keeps : (id : Option LpId) → IsIdKnown old id → tree_in new id ≡ tree_in old id
  tree_in-Keeps None h = refl
  tree_in-Keeps (Some id) h = ap Some (sym (tree_at-Stays k.stays id.0 h))

  frame_in-Keeps : (ds : List Declaration) (scope : Scope) (f : Frame) → IsFrameKnown old ns ds scope f → frame_in new ms f ≡ frame_in old ns f
  frame_in-Keeps ds scope (frame.Enclosing f) h = cc (tree_in-Keeps f h)
  frame_in-Keeps ds scope (frame.Domain n) h = cc (j.stays n h)
  frame_in-Keeps ds scope (frame.Product n a w) h = cc (j.stays n h.name, tree_at-Stays k.stays a.0 h.domain)
  frame_in-Keeps ds scope (frame.Abstraction n a w) h = cc (j.stays n h.name, tree_at-Stays k.stays a.0 h.domain)

  pub frames_in-Keeps : (ds : List Declaration) (fs : List Frame) → AreFramesKnown old ns ds fs → frames_in new ms fs ≡ frames_in old ns fs
  frames_in-Keeps ds [] h = refl
  frames_in-Keeps ds (f ∷ fs) h = cc (frame_in-Keeps ds (reading.scope_of (frames_in old ns fs)) f h.0, frames_in-Keeps ds fs h.1)

  pub head_in-Keeps : (h : Head) → IsHeadKnown old ns h → head_in new ms h ≡ head_in old ns h
  head_in-Keeps (head.TypeOf form n) h = cc (j.stays n h)
  head_in-Keeps (head.BodyOf form n ty) h = cc (j.stays n h.0, tree_at-Stays k.stays ty.0 h.1)

  pub IsIdKnown-Keeps : (id : Option LpId) → IsIdKnown old id → IsIdKnown new id
  IsIdKnown-Keeps None h = tt
  IsIdKnown-Keeps (Some id) h = omega (arith, k.longer, h)

  pub IsHeadKnown-Keeps : (h : Head) → IsHeadKnown old ns h → IsHeadKnown new ms h
  IsHeadKnown-Keeps (head.TypeOf form n) h = omega (arith, j.longer, h)
  IsHeadKnown-Keeps (head.BodyOf form n ty) h = (omega (arith, j.longer, h.0), omega (arith, k.longer, h.1))

  pub IsBinding-Keeps : (ds : List Declaration) (scope : Scope) (n : ℕ) (a : LpId) (w : Meaning) → IsBinding old ns ds scope n a w
      → IsBinding new ms ds scope n a w
  IsBinding-Keeps ds scope n a w h = record
      { name = omega (arith, j.longer, h.name); domain = omega (arith, k.longer, h.domain); hides = h.hides ∙ ap (bound ds scope) (sym (j.stays n h.name)) }

  IsFrameKnown-Keeps : (ds : List Declaration) (scope : Scope) (f : Frame) → IsFrameKnown old ns ds scope f → IsFrameKnown new ms ds scope f
  IsFrameKnown-Keeps ds scope (frame.Enclosing f) h = IsIdKnown-Keeps f h
  IsFrameKnown-Keeps ds scope (frame.Domain n) h = omega (arith, j.longer, h)
  IsFrameKnown-Keeps ds scope (frame.Product n a w) h = IsBinding-Keeps ds scope n a w h
  IsFrameKnown-Keeps ds scope (frame.Abstraction n a w) h = IsBinding-Keeps ds scope n a w h

  pub AreFramesKnown-Keeps : (ds : List Declaration) (fs : List Frame) → AreFramesKnown old ns ds fs → AreFramesKnown new ms ds fs
  AreFramesKnown-Keeps ds [] h = tt
  AreFramesKnown-Keeps ds (f ∷ fs) h = (
    subst (λ s. IsFrameKnown new ms ds (reading.scope_of s) f) (sym (frames_in-Keeps ds fs h.1))
        (IsFrameKnown-Keeps ds (reading.scope_of (frames_in old ns fs)) f h.0),
    AreFramesKnown-Keeps ds fs h.1,
  )

-- kept numbers stay those of their trees
AreOf-Keeps : (tree : ℕ → Tree) (old new : List Tree) → Keeps old new → (ids : List LpId) → AreOf tree old ids → AreOf tree new ids
AreOf-Keeps tree old new k ids h = λ n id e. k.stays.each id.0 (tree n) (h n id e)

AreAtoms-Keeps : (old new : List Tree) → Keeps old new → (atoms : Atoms) → AreAtoms old atoms → AreAtoms new atoms
AreAtoms-Keeps old new k atoms h = (AreOf-Keeps Var old new k atoms.variables.items h.0, λ n id e. k.stays.each id.0 (Sym n) (h.1 n id e))

-- one more of them
push_at : {X : Type 0} (vs : List X) (id x : X) (n : ℕ) → slice_get (vs ++ id ∷ []) n ≡ Some x → (slice_get vs n ≡ Some x) ⊎ ((n ≡ length vs) × (id ≡ x))
push_at [] id x zero e = inr (refl, same_Some id x e)
push_at [] id x (suc n) e = absurd (cc)
push_at (v ∷ vs) id x zero e = inl e
push_at (v ∷ vs) id x (suc n) e = elim (push_at vs id x n e) [ inl f ↦ inl f | inr f ↦ inr (ap suc f.0, f.1) ]

pub AreOf-push : (tree : ℕ → Tree) (trees : List Tree) (ids : List LpId) (id : LpId) → AreOf tree trees ids → Holds trees id.0 (tree (length ids))
    → AreOf tree trees (ids ++ id ∷ [])
AreOf-push tree trees ids id h k = λ n x e. elim (push_at ids id x n e)
    [ inl f ↦ h n x f | inr f ↦ subst (λ (y : LpId). Holds trees y.0 (tree n)) f.1 (subst (λ i. Holds trees id.0 (tree i)) (sym f.0) k) ]

-- one more place for a symbol, and a place that is filled
pub AreOfSymbols-push : (trees : List Tree) (ids : List (Option LpId)) → AreOfSymbols trees ids → AreOfSymbols trees (ids ++ None ∷ [])
AreOfSymbols-push trees ids h = λ n x e. elim (push_at ids None (Some x) n e) [ inl f ↦ h n x f | inr f ↦ absurd (let g = f.1 in cc) ]

set_at : (ids : List (Option LpId)) (k n : ℕ) (id x : LpId) → slice_get (slice_set ids k (Some id)) n ≡ Some (Some x) → (slice_get ids n ≡ Some (Some x))
    ⊎ ((n ≡ k) × (id ≡ x))
set_at [] k n id x e = inl e
set_at (v ∷ ids) zero zero id x e = inr (refl, same_Some id x (same_Some (Some id) (Some x) e))
set_at (v ∷ ids) zero (suc n) id x e = inl e
set_at (v ∷ ids) (suc k) zero id x e = inl e
set_at (v ∷ ids) (suc k) (suc n) id x e = elim (set_at ids k n id x e) [ inl f ↦ inl f | inr f ↦ inr (ap suc f.0, f.1) ]

pub AreOfSymbols-set : (trees : List Tree) (ids : List (Option LpId)) (k : ℕ) (id : LpId) → AreOfSymbols trees ids → Holds trees id.0 (Sym k)
    → AreOfSymbols trees (slice_set ids k (Some id))
AreOfSymbols-set trees ids k id h at = λ n x e. elim (set_at ids k n id x e)
    [ inl f ↦ h n x f | inr f ↦ subst (λ (y : LpId). Holds trees y.0 (Sym n)) f.1 (subst (λ i. Holds trees id.0 (Sym i)) (sym f.0) at) ]

-- the node that is read from a place stands there
pub unwrap_or-at : (o : Option (Option LpId)) (id : LpId) → Some id ≡ unwrap_or o None → o ≡ Some (Some id)
unwrap_or-at None id e = absurd (cc)
unwrap_or-at (Some x) id e = ap Some (sym e)

-- and so does one that was put there
pub slice_get-slice_set : (ids : List (Option LpId)) (n : ℕ) (x : Option LpId) → n < length (slice_set ids n x) → slice_get (slice_set ids n x) n ≡ Some x
slice_get-slice_set [] n x few = absurd (omega arith)
slice_get-slice_set (v ∷ ids) zero x few = refl
slice_get-slice_set (v ∷ ids) (suc n) x few = slice_get-slice_set ids n x (omega arith)

-- the same reading over a table or names that have grown
pub grown_in : (m : Module) (new : List Tree) (ns ms : List Named) (z : ℕ) (vs : Atoms) (b : ℕ) (h : Head) (fs : List Frame) → Keeps m.table new
    → naming.Keeps ns ms → ((x : List ℕ) → looked ms x ≡ looked ns x) → IsSoundIn m ns z vs b h fs
    → IsSoundIn (record { table = new; decls = m.decls }) ms z vs b h fs
grown_in m new ns ms z vs b h fs k j same s =
    let ds = signature ++ declarations_of m in
    let one : signature ++ declarations_of (record { table = new; decls = m.decls }) ≡ ds = ap (λ l. signature ++ l) (declarations_of-Keeps m new k s.held) in
    let frames : frames_in new ms fs ≡ frames_in m.table ns fs = frames_in-Keeps m.table new k ns ms j ds fs s.frames in
    record {
      held = IsHeld-Keeps m new k s.held;
      is_module = subst IsModule (sym (declarations_of-Keeps m new k s.held)) s.is_module;
      frames = subst (λ l. AreFramesKnown new ms l fs) (sym one) (AreFramesKnown-Keeps m.table new k ns ms j ds fs s.frames);
      head = IsHeadKnown-Keeps m.table new k ns ms j h s.head;
      meanings = λ x. same x ∙ s.meanings x ∙ ap (λ l. bound l (reading.scope_of (frames_in m.table ns fs)) x) (sym one)
          ∙ ap (λ l. bound (signature ++ declarations_of (record { table = new; decls = m.decls })) (reading.scope_of l) x) (sym frames);
      empty = (omega (arith, j.longer, s.empty.0), j.stays z s.empty.0 ∙ s.empty.1);
      depth = s.depth ∙ ap (λ l. length (reading.scope_of l)) (sym frames);
      few = s.few;
      atoms = AreAtoms-Keeps m.table new k vs s.atoms;
    }

pub grown : (p : Parser) (new : List Tree) (ms : List Named) → Keeps p.module.table new → naming.Keeps p.names ms
    → ((x : List ℕ) → looked ms x ≡ looked p.names x) → IsSound p
    → Grows p (record {
      alloc = p.alloc;
      «module» = record { table = new; decls = p.module.decls };
      names = ms;
      nameless = p.nameless;
      frames = p.frames;
      atoms = p.atoms;
      binders = p.binders;
      head = p.head;
      state = p.state;
    })
grown p new ms k j same s =
    record {
      keeps = k;
      names = j;
      declared = declarations_of-Keeps p.module new k s.held;
      frames = frames_in-Keeps p.module.table new k p.names ms j (signature ++ declarations_of p.module) (reverse p.frames.items) s.frames;
      head = head_in-Keeps p.module.table new k p.names ms j p.head s.head;
      opened = refl;
      state = refl;
      sound = λ t. grown_in p.module new p.names ms p.nameless p.atoms p.binders p.head (reverse p.frames.items) k j same t;
    }

-- and with other nodes that are kept
pub with_atoms : (m : Module) (ns : List Named) (z : ℕ) (vs ws : Atoms) (b : ℕ) (h : Head) (fs : List Frame) → AreAtoms m.table ws → IsSoundIn m ns z vs b h fs
    → IsSoundIn m ns z ws b h fs
with_atoms m ns z vs ws b h fs are s = record {
  held = s.held;
  is_module = s.is_module;
  frames = s.frames;
  head = s.head;
  meanings = s.meanings;
  empty = s.empty;
  depth = s.depth;
  few = s.few;
  atoms = are;
}

pub grown_atoms : (p : Parser) (atoms : Atoms) → (IsSound p → AreAtoms p.module.table atoms)
    → Grows p (record {
      alloc = p.alloc;
      «module» = p.module;
      names = p.names;
      nameless = p.nameless;
      frames = p.frames;
      atoms = atoms;
      binders = p.binders;
      head = p.head;
      state = p.state;
    })
grown_atoms p atoms h = record {
  keeps = Keeps-refl p.module.table;
  names = record { longer = omega arith; stays = λ n k. refl };
  declared = refl;
  frames = refl;
  head = refl;
  opened = refl;
  state = refl;
  sound = λ s. with_atoms p.module p.names p.nameless p.atoms atoms p.binders p.head (reverse p.frames.items) (h s) s;
}

-- one after the other
pub Grows-then : (p q r : Parser) → Grows p q → Grows q r → Grows p r
Grows-then p q r g h = record {
  keeps = Keeps-trans g.keeps h.keeps;
  names = record {
    longer = omega (arith, g.names.longer, h.names.longer);
    stays =
        λ n k. h.names.stays n (omega (arith, k, g.names.longer)) ∙ g.names.stays n k;
  };
  declared = h.declared ∙ g.declared;
  frames = h.frames ∙ g.frames;
  head = h.head ∙ g.head;
  opened = h.opened ∙ g.opened;
  state = h.state ∙ g.state;
  sound = λ s. h.sound (g.sound s);
}

-- and its state
IsStateKnown-Grows : (p q : Parser) (s : State) → Grows p q → IsStateKnown p s → IsStateKnown q s
IsStateKnown-Grows p q state.Between g h = g.opened ∙ h
IsStateKnown-Grows p q (state.AfterKeyword form) g h = g.opened ∙ h
IsStateKnown-Grows p q (state.AfterName form n) g h = (omega (arith, g.names.longer, h.0), g.opened ∙ h.1)
IsStateKnown-Grows p q state.AtTerm g h = tt
IsStateKnown-Grows p q (state.AfterFirst place n) g h = omega (arith, g.names.longer, h)
IsStateKnown-Grows p q (state.InApplication f) g h = IsIdKnown-Keeps p.module.table q.module.table g.keeps p.names q.names g.names f h

pub state_in-Grows : (p q : Parser) (s : State) → Grows p q → IsStateKnown p s → state_in q s ≡ state_in p s
state_in-Grows p q state.Between g h = refl
state_in-Grows p q (state.AfterKeyword form) g h = refl
state_in-Grows p q (state.AfterName form n) g h = ap (reading.AfterName form) (g.names.stays n h.0)
state_in-Grows p q state.AtTerm g h = cc (g.head, g.frames)
state_in-Grows p q (state.AfterFirst place n) g h = cc (g.head, g.frames, g.names.stays n h)
state_in-Grows p q (state.InApplication f) g h = cc (g.head, g.frames, tree_in-Keeps p.module.table q.module.table g.keeps p.names q.names g.names f h)

pub known-Grows : (p q : Parser) → Grows p q → IsStateKnown p p.state → IsStateKnown q q.state
known-Grows p q g h = subst (IsStateKnown q) (sym g.state) (IsStateKnown-Grows p q p.state g h)

pub state-Grows : (p q : Parser) → Grows p q → IsStateKnown p p.state → state_in q q.state ≡ state_in p p.state
state-Grows p q g h = ap (state_in q) g.state ∙ state_in-Grows p q p.state g h
