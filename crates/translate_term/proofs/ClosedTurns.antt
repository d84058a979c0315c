-- What a turn does to a walk over a closed sequent's parts.
use Rattle.std.proofs.Common.{◌≡◌, ℕ, zero, suc, ◌+◌, ◌-◌, ◌<◌, ◌≤◌, List, [], ◌∷◌, map, length, Some, refl, sym, ap, subst, ◌∙◌, arith}
use Rattle.std.specs.Prelude.{IsSome, is_some}
use Rattle.std.specs.List.{AllByRecursion}
use Rattle.std.proofs.Math.Path.{ap₂}
use Rattle.common.specs.Binding.{Pairwise}
use Rattle.hol_spec.specs.Names.{Name}
use Rattle.hol_spec.specs.Types as type
use Rattle.hol_spec.specs.Types.{HolType, HolTypes, count, listed, variable_places, variable_places_of_all}
use Rattle.hol_spec.specs.Terms as term
use Rattle.hol_spec.specs.Terms.{Term, type_variable_places, free_places}
use Rattle.hol_spec.specs.ClosedForm as form
use Rattle.hol_spec.specs.ClosedForm.{close_type, close_types, close_term}
use Rattle.hol_spec.specs.Lists.{IsIn}
use Rattle.hol_laws.specs.Members.{All-left, All-right}
use Rattle.lp_spec.specs.Trees.{Tree, Var, Sym, App, Lam}
use Rattle.lp_spec.specs.Modules.{applied, term_of}
use Rattle.lp_term.specs.declared.LpId.{LpId}
use Rattle.lp_term.specs.Tables.{tree_at, trees_at, AreKnown, Holds}
use Rattle.lp_term.specs.TableLaws.{Holds-tree_at, Holds-within, tree_at-Holds}
use Rattle.holide_sig.specs.declared.module.Module.{Module}
use Rattle.holide_sig.specs.Modules.{declarations_of}
use Rattle.translate_spec.specs.Scopes.{TypeScope, operator_symbol, type_tree, type_trees, term_tree, constant_tree}
use Rattle.sequent.specs.declared.closed.ClosedType.{ClosedType}
use Rattle.sequent.specs.declared.closed.TypeNode.{TypeNode}
use Rattle.sequent.specs.declared.closed.TermNode.{TermNode}
use Rattle.sequent.specs.Closed.{first, others, firsts, behind, no_type, no_term, closed_type_view, closed_types_of, type_step, term_step, spelled_types, spelled_terms}
use Rattle.translate_term.specs.declared.closed.TypeWork.{TypeWork}
use Rattle.translate_term.specs.declared.closed.TypeWork.TheVariants as type_work
use Rattle.translate_term.specs.declared.closed.TermWork.{TermWork}
use Rattle.translate_term.specs.declared.closed.TermWork.TheVariants as term_work
use Rattle.translate_term.specs.Told.{TellsTypes, TellsConstant, told_operator}
use Rattle.translate_term.specs.Patterns.{IsTypeTree}
use Rattle.translate_term.specs.Walks.{Grows}
use Rattle.translate_term.specs.Closed.{Numbered, types_under, scope_under, IsInside, IsTypeOf, IsTermOf, MakesTypes, MakesTerms, IsNumbered, IsTypeWalk, IsTermWalk, IsTypeToMake, IsTermToMake, IsPut}
use Rattle.translate_term.specs.GrowLaws.{IsHeld-Grows, declarations_of-Grows}
use Rattle.lp_term.specs.TableLaws.{trees_at-Keeps, AreKnown-Keeps}
use Rattle.translate_term.proofs.ParameterScopes.{TellsTerm-AreInstances, type-placed, variable-placed, term_tree-inside_under}

pub IsNumbered-Grows : {m n : Module} → Grows m n → (given : Numbered) (k : ℕ) → IsNumbered given m k → IsNumbered given n k
IsNumbered-Grows {m = m} {n = n} g given k h = record
    { held = IsHeld-Grows m n g h.held; declared = declarations_of-Grows m n g h.held ∙ h.declared; count = h.count }

-- the count of the type variables is theirs
pub IsNumbered-names : {given : Numbered} {m : Module} {k : ℕ} → IsNumbered given m k → IsNumbered given m (length given.names)
IsNumbered-names h = record { held = h.held; declared = h.declared; count = refl }

-- a tree that was made is put on those that were made before
put_known : (m now : Module) (made after : List LpId) (x : Tree) → Grows m now → AreKnown m.table made → IsPut made after now.table x → AreKnown now.table after
put_known m now made after x g known p = subst (AreKnown now.table) (sym p.is) (Holds-within now.table p.id.0 x p.holds, AreKnown-Keeps g.table made known)

put_trees : (m now : Module) (made after : List LpId) (x : Tree) → Grows m now → AreKnown m.table made → IsPut made after now.table x
    → x ∷ trees_at m.table made ≡ trees_at now.table after
put_trees m now made after x g known p = ap₂ (λ t l. t ∷ l) (sym (Holds-tree_at now.table p.id.0 x p.holds)) (sym (trees_at-Keeps g.table made known)) ∙ ap
    (trees_at now.table) (sym p.is)

type_made : (given : Numbered) (root : Tree) (m now : Module) (depth : ℕ) (works : List TypeWork) (ts : List form.ClosedType) (made after : List LpId)
    (x : Tree) → Grows m now → IsNumbered given m (length given.names) → AreKnown m.table made → IsPut made after now.table x
    → MakesTypes given depth root works ts (x ∷ trees_at m.table made) → IsTypeWalk given root now depth works ts after
type_made given root m now depth works ts made after x g numbered known p makes = record {
  numbered = IsNumbered-Grows g given (length given.names) numbered;
  known = put_known m now made after x g known p;
  makes = subst (MakesTypes given depth root works ts) (put_trees m now made after x g known p) makes;
}

term_made : (given : Numbered) (root : Tree) (m now : Module) (k : ℕ) (works : List TermWork) (ts : List form.ClosedTerm) (made after : List LpId) (x : Tree)
    → Grows m now → IsNumbered given m k → AreKnown m.table made → IsPut made after now.table x
    → MakesTerms given root works ts (x ∷ trees_at m.table made) → IsTermWalk given root now k works ts after
term_made given root m now k works ts made after x g numbered known p makes = record {
  numbered = IsNumbered-Grows g given k numbered;
  known = put_known m now made after x g known p;
  makes = subst (MakesTerms given root works ts) (put_trees m now made after x g known p) makes;
}

-- The heads of closed types.
module _ (given : Numbered) where
  type-parameter : (i depth : ℕ) (t : HolType) → IsTypeOf given (form.ClosedType.parameter i) t → type_tree given.symbols (types_under given depth) t
      ≡ Var (depth - i - 1)
  type-parameter i depth (type.HolType.variable n) h = type-placed given depth n h.over.0 i h.is
  type-parameter i depth (type.HolType.operator n ts) h = absurd (let e = h.is in cc)

  -- an operator and its arguments
  record IsOperatorOf (n : Name) (cs : List form.ClosedType) (t : HolType) : Type 0 where
    pub ts : HolTypes
    pub is : t ≡ type.HolType.operator n ts
    pub symbol : told_operator given.declarations n (length cs) ≡ Some (operator_symbol given.symbols n (count ts))
    pub are : Pairwise (IsTypeOf given) cs (listed ts)

  types-of_listed : (cs : List form.ClosedType) (ts : HolTypes) → close_types given.names ts ≡ closed_types_of cs
      → TellsTypes given.declarations given.symbols ts → AllByRecursion (IsIn given.names) (variable_places_of_all ts)
      → Pairwise (IsTypeOf given) cs (listed ts)
  types-of_listed [] type.HolTypes.none e told over = tt
  types-of_listed [] (type.HolTypes.more t ts) e told over = absurd (cc)
  types-of_listed (c ∷ cs) type.HolTypes.none e told over = absurd (cc)
  types-of_listed (c ∷ cs) (type.HolTypes.more t ts) e told over =
      let first : close_type given.names t ≡ c = cc in
      let others : close_types given.names ts ≡ closed_types_of cs = cc in (
        record { is = first; told = told.0; over = All-left (IsIn given.names) (variable_places t) (variable_places_of_all ts) over },
        types-of_listed cs ts others told.1 (All-right (IsIn given.names) (variable_places t) (variable_places_of_all ts) over),
      )

  count-closed : (cs : List form.ClosedType) (ts : HolTypes) → close_types given.names ts ≡ closed_types_of cs → count ts ≡ length cs
  count-closed [] type.HolTypes.none e = refl
  count-closed [] (type.HolTypes.more t ts) e = absurd (cc)
  count-closed (c ∷ cs) type.HolTypes.none e = absurd (cc)
  count-closed (c ∷ cs) (type.HolTypes.more t ts) e =
      let others : close_types given.names ts ≡ closed_types_of cs = cc in
      let same = count-closed cs ts others in
      omega (arith, same)

  type-operator : (n : Name) (cs : List form.ClosedType) (t : HolType) → IsTypeOf given (form.ClosedType.operator n (closed_types_of cs)) t
      → IsOperatorOf n cs t
  type-operator n cs (type.HolType.variable m) h = absurd (let e = h.is in cc)
  type-operator n cs (type.HolType.operator m ts) h =
      let e : form.ClosedType.operator m (close_types given.names ts) ≡ form.ClosedType.operator n (closed_types_of cs) = h.is in
      let same : m ≡ n = cc in
      let args : close_types given.names ts ≡ closed_types_of cs = cc in
      record {
        ts = ts;
        is = ap (λ k. type.HolType.operator k ts) same;
        symbol = ap₂ (λ k j. told_operator given.declarations k j) (sym same) (sym (count-closed cs ts args)) ∙ h.told.0
            ∙ ap (λ k. Some (operator_symbol given.symbols k (count ts))) same;
        are = types-of_listed cs ts args h.told.1 h.over;
      }

  trees-listed : (scope : TypeScope) (ts : HolTypes) → type_trees given.symbols scope ts ≡ map (type_tree given.symbols scope) (listed ts)
  trees-listed scope type.HolTypes.none = refl
  trees-listed scope (type.HolTypes.more t ts) = ap (λ l. type_tree given.symbols scope t ∷ l) (trees-listed scope ts)

  -- The heads of closed terms.
  term-parameter : (j depth : ℕ) (t : Term) → IsTermOf given (form.ClosedTerm.parameter j) t → term_tree given.symbols (scope_under given depth) t
      ≡ Var (depth - (length given.names + j) - 1)
  term-parameter j depth (term.Term.free n a) h = variable-placed given depth (n, a) h.terms.0 j h.is
  term-parameter j depth (term.Term.bound k) h = absurd (let e = h.is in cc)
  term-parameter j depth (term.Term.constant n a) h = absurd (let e = h.is in cc)
  term-parameter j depth (term.Term.app f x) h = absurd (let e = h.is in cc)
  term-parameter j depth (term.Term.lam a b) h = absurd (let e = h.is in cc)

  term-bound : (k depth : ℕ) (t : Term) → IsTermOf given (form.ClosedTerm.bound k) t → term_tree given.symbols (scope_under given depth) t ≡ Var k
  term-bound k depth (term.Term.free n a) h = absurd (let e = h.is in cc)
  term-bound k depth (term.Term.bound i) h = let e : form.ClosedTerm.bound i ≡ form.ClosedTerm.bound k = h.is in let same : i ≡ k = cc in ap Var same
  term-bound k depth (term.Term.constant n a) h = absurd (let e = h.is in cc)
  term-bound k depth (term.Term.app f x) h = absurd (let e = h.is in cc)
  term-bound k depth (term.Term.lam a b) h = absurd (let e = h.is in cc)

  record IsConstantOf (n : Name) (c : form.ClosedType) (depth : ℕ) (t : Term) : Type 0 where
    pub ty : HolType
    pub told : TellsConstant given.declarations given.symbols n ty
    pub of : IsTypeOf given c ty
    pub is : term_tree given.symbols (scope_under given depth) t ≡ constant_tree given.symbols (types_under given depth) n ty

  term-constant : (n : Name) (c : form.ClosedType) (depth : ℕ) (t : Term) → IsTermOf given (form.ClosedTerm.constant n c) t → IsConstantOf n c depth t
  term-constant n c depth (term.Term.free m a) h = absurd (let e = h.is in cc)
  term-constant n c depth (term.Term.bound i) h = absurd (let e = h.is in cc)
  term-constant n c depth (term.Term.constant m a) h =
      let e : form.ClosedTerm.constant m (close_type given.names a) ≡ form.ClosedTerm.constant n c = h.is in
      let same : m ≡ n = cc in
      let own : close_type given.names a ≡ c = cc in
      record {
        ty = a;
        told = subst (λ k. TellsConstant given.declarations given.symbols k a) same h.told;
        of = record { is = own; told = h.told.ty; over = h.types };
        is = ap (λ k. constant_tree given.symbols (types_under given depth) k a) same;
      }
  term-constant n c depth (term.Term.app f x) h = absurd (let e = h.is in cc)
  term-constant n c depth (term.Term.lam a b) h = absurd (let e = h.is in cc)

  record IsApplicationOf (c d : form.ClosedTerm) (depth : ℕ) (t : Term) : Type 0 where
    pub function : Term
    pub argument : Term
    pub function_of : IsTermOf given c function
    pub argument_of : IsTermOf given d argument
    pub is : term_tree given.symbols (scope_under given depth) t
        ≡ App (term_tree given.symbols (scope_under given depth) function) (term_tree given.symbols (scope_under given depth) argument)

  term-application : (c d : form.ClosedTerm) (depth : ℕ) (t : Term) → IsTermOf given (form.ClosedTerm.app c d) t → IsApplicationOf c d depth t
  term-application c d depth (term.Term.free m a) h = absurd (let e = h.is in cc)
  term-application c d depth (term.Term.bound i) h = absurd (let e = h.is in cc)
  term-application c d depth (term.Term.constant m a) h = absurd (let e = h.is in cc)
  term-application c d depth (term.Term.app f x) h =
      let e : form.ClosedTerm.app (close_term given.names given.variables f) (close_term given.names given.variables x) ≡ form.ClosedTerm.app c d = h.is in
      let first : close_term given.names given.variables f ≡ c = cc in
      let second : close_term given.names given.variables x ≡ d = cc in
      record {
        function = f;
        argument = x;
        function_of = record {
          is = first;
          told = h.told.0;
          types = All-left (IsIn given.names) (type_variable_places f) (type_variable_places x) h.types;
          terms =
              All-left (IsIn given.variables) (free_places f) (free_places x) h.terms;
        };
        argument_of = record {
          is = second;
          told = h.told.1;
          types = All-right (IsIn given.names) (type_variable_places f) (type_variable_places x) h.types;
          terms =
              All-right (IsIn given.variables) (free_places f) (free_places x) h.terms;
        };
        is = refl;
      }
  term-application c d depth (term.Term.lam a b) h = absurd (let e = h.is in cc)

  record IsAbstractionOf (c : form.ClosedType) (d : form.ClosedTerm) (depth : ℕ) (t : Term) : Type 0 where
    pub ty : HolType
    pub body : Term
    pub ty_of : IsTypeOf given c ty
    pub body_of : IsTermOf given d body
    pub is : term_tree given.symbols (scope_under given depth) t
        ≡ Lam (term_of (type_tree given.symbols (types_under given depth) ty)) (term_tree given.symbols (scope_under given (suc depth)) body)

  term-abstraction : (c : form.ClosedType) (d : form.ClosedTerm) (depth : ℕ) → IsInside given depth → (t : Term) → IsTermOf given (form.ClosedTerm.lam c d) t
      → IsAbstractionOf c d depth t
  term-abstraction c d depth within (term.Term.free m a) h = absurd (let e = h.is in cc)
  term-abstraction c d depth within (term.Term.bound i) h = absurd (let e = h.is in cc)
  term-abstraction c d depth within (term.Term.constant m a) h = absurd (let e = h.is in cc)
  term-abstraction c d depth within (term.Term.app f x) h = absurd (let e = h.is in cc)
  term-abstraction c d depth within (term.Term.lam a b) h =
      let e : form.ClosedTerm.lam (close_type given.names a) (close_term given.names given.variables b) ≡ form.ClosedTerm.lam c d = h.is in
      let first : close_type given.names a ≡ c = cc in
      let second : close_term given.names given.variables b ≡ d = cc in
      let over = All-right (IsIn given.names) (variable_places a) (type_variable_places b) h.types in
      record {
        ty = a;
        body = b;
        ty_of = record { is = first; told = h.told.0; over = All-left (IsIn given.names) (variable_places a) (type_variable_places b) h.types };
        body_of = record { is = second; told = h.told.1; types = over; terms = h.terms };
        is = ap (Lam (term_of (type_tree given.symbols (types_under given depth) a)))
            (term_tree-inside_under given depth within b (TellsTerm-AreInstances given.declarations given.symbols b h.told.1) over h.terms);
      }

-- A type whose tree is to be made.
pub type_begins : (given : Numbered) (m : Module) (t : HolType) (nodes : List TypeNode) (depth : ℕ)
    → IsTypeToMake given t m (first no_type (spelled_types nodes))
    → IsTypeWalk given (type_tree given.symbols (types_under given depth) t) m depth (type_work.Next ∷ []) (spelled_types nodes) []
type_begins given m t nodes depth s = record { numbered = s.numbered; known = tt; makes = (t, s.of, refl) }

pub type_one : (given : Numbered) (root : Tree) (m : Module) (depth : ℕ) (ts : List form.ClosedType) (made : List LpId)
    → IsTypeWalk given root m depth [] ts made → 0 < length made
type_one given root m depth ts [] w = absurd (let e : [] ≡ root ∷ [] = w.makes in cc)
type_one given root m depth ts (x ∷ made) w = omega arith

pub type_ends : (given : Numbered) (root : Tree) (m : Module) (depth : ℕ) (ts : List form.ClosedType) (r : LpId) (made rest : List LpId) → made ≡ r ∷ rest
    → IsTypeWalk given root m depth [] ts made → Holds m.table r.0 root
type_ends given root m depth ts r made rest s v =
    let w = subst (IsTypeWalk given root m depth [] ts) s v in
    let e : tree_at m.table r.0 ∷ trees_at m.table rest ≡ root ∷ [] = w.makes in
    let same : tree_at m.table r.0 ≡ root = cc in
    tree_at-Holds m.table r.0 w.known.0 ∙ ap Some same

length-firsts : {A : Type 0} (d : A) (k : ℕ) (xs : List A) → length (firsts d k xs) ≡ k
length-firsts d zero xs = refl
length-firsts d (suc k) xs = ap suc (length-firsts d k (others xs))

-- an argument that is next
module _ (given : Numbered) (depth : ℕ) (root : Tree) (works : List TypeWork) (ts : List form.ClosedType) where
  pub applied_to_next : (k j : ℕ) (made : List Tree) → k ≡ suc j → MakesTypes given depth root (type_work.ApplyTo k ∷ works) ts made
      → MakesTypes given depth root (type_work.Next ∷ type_work.Apply ∷ type_work.ApplyTo j ∷ works) ts made
  applied_to_next k j [] e h = absurd h
  applied_to_next k j (f ∷ made) e h = let n = subst (λ (i : ℕ). MakesTypes given depth root (type_work.ApplyTo i ∷ works) ts (f ∷ made)) e h in go n.0 n.1 n.2
    where
      go : (us : List HolType) → Pairwise (IsTypeOf given) (first no_type ts ∷ firsts no_type j (others ts)) us
          → MakesTypes given depth root works (behind j (others ts)) (applied f (map (type_tree given.symbols (types_under given depth)) us) ∷ made)
          → MakesTypes given depth root (type_work.Next ∷ type_work.Apply ∷ type_work.ApplyTo j ∷ works) ts (f ∷ made)
      go [] are makes = absurd are
      go (u ∷ us) are makes = (u, are.0, (us, are.1, makes))

module _ (given : Numbered) (root : Tree) (m : Module) (depth : ℕ) (works : List TypeWork) where
  -- a type variable
  pub type_leaf : (now : Module) (i : ℕ) (cs : List form.ClosedType) (made after : List LpId) → first no_type cs ≡ form.ClosedType.parameter i → Grows m now
      → IsPut made after now.table (Var (depth - i - 1))
      → IsTypeWalk given root m depth (type_work.Next ∷ works) cs made → IsTypeWalk given root now depth works (others cs) after
  type_leaf now i cs made after e g p w =
      let of = subst (λ c. IsTypeOf given c w.makes.0) e w.makes.1 in
      type_made given root m now depth works (others cs) made after _ g w.numbered w.known
      (subst (IsPut made after now.table) (sym (type-parameter given i depth w.makes.0 of)) p) w.makes.2

  -- the symbol of an operator is found, and to be applied to the arguments
  module _ (n : Name) (k : ℕ) (ts : List form.ClosedType) (made : List LpId)
      (w : IsTypeWalk given root m depth (type_work.Next ∷ works) (type_step (TypeNode.Operator n k) ts) made) where
    arguments : IsOperatorOf given n (firsts no_type k ts) w.makes.0
    arguments = type-operator given n (firsts no_type k ts) w.makes.0 w.makes.1

    found : told_operator (declarations_of m) n k ≡ Some (operator_symbol given.symbols n (count arguments.ts))
    found = ap₂ (λ d j. told_operator d n j) w.numbered.declared (sym (length-firsts no_type k ts)) ∙ arguments.symbol

    pub operator-found : IsSome (told_operator (declarations_of m) n k)
    operator-found = ap is_some found

    pub type_operator : (now : Module) (after : List LpId) → Grows m now
        → ((s : ℕ) → told_operator (declarations_of m) n k ≡ Some s → IsPut made after now.table (Sym s))
        → IsTypeWalk given root now depth (type_work.ApplyTo k ∷ works) ts after
    type_operator now after g put =
        let o = arguments in
        let scope = types_under given depth in
        let s = operator_symbol given.symbols n (count o.ts) in
        let is : type_tree given.symbols scope w.makes.0 ≡ applied (Sym s) (map (type_tree given.symbols scope) (listed o.ts)) =
        ap (type_tree given.symbols scope) o.is ∙ ap (applied (Sym s)) (trees-listed given scope o.ts) in
        type_made given root m now depth (type_work.ApplyTo k ∷ works) ts made after (Sym s) g w.numbered w.known (put s found)
        (listed o.ts, o.are, subst (λ t. MakesTypes given depth root works (behind k ts) (t ∷ trees_at m.table made)) is w.makes.2)

  -- a function and its argument
  pub type_two : (ts : List form.ClosedType) (made : List LpId) → IsTypeWalk given root m depth (type_work.Apply ∷ works) ts made → 1 < length made
  type_two ts [] w = absurd w.makes
  type_two ts (x ∷ []) w = absurd w.makes
  type_two ts (x ∷ f ∷ rest) w = omega arith

  pub type_parts : (ts : List form.ClosedType) (x f : LpId) (made rest : List LpId) → made ≡ x ∷ f ∷ rest
      → IsTypeWalk given root m depth (type_work.Apply ∷ works) ts made → (f.0 < length m.table) × (x.0 < length m.table)
  type_parts ts x f made rest e v = let w = subst (IsTypeWalk given root m depth (type_work.Apply ∷ works) ts) e v in (w.known.1.0, w.known.0)

  pub type_applied : (ts : List form.ClosedType) (x f : LpId) (made rest after : List LpId) (now : Module) → made ≡ x ∷ f ∷ rest → Grows m now
      → IsPut rest after now.table (App (tree_at m.table f.0) (tree_at m.table x.0))
      → IsTypeWalk given root m depth (type_work.Apply ∷ works) ts made → IsTypeWalk given root now depth works ts after
  type_applied ts x f made rest after now e g p v =
      let w = subst (IsTypeWalk given root m depth (type_work.Apply ∷ works) ts) e v in
      type_made given root m now depth works ts rest after _ g w.numbered w.known.1.1 p w.makes

-- A term whose tree is to be made.
pub term_begins : (given : Numbered) (m : Module) (k : ℕ) (t : Term) (nodes : List TermNode) (depth : ℕ)
    → IsTermToMake given t m k (first no_term (spelled_terms nodes)) depth
    → IsTermWalk given (term_tree given.symbols (scope_under given depth) t) m k (term_work.Next depth ∷ []) (spelled_terms nodes) []
term_begins given m k t nodes depth s = record { numbered = s.numbered; known = tt; makes = (t, s.of, s.inside, refl) }

pub term_one : (given : Numbered) (root : Tree) (m : Module) (k : ℕ) (ts : List form.ClosedTerm) (made : List LpId) → IsTermWalk given root m k [] ts made
    → 0 < length made
term_one given root m k ts [] w = absurd (let e : [] ≡ root ∷ [] = w.makes in cc)
term_one given root m k ts (x ∷ made) w = omega arith

pub term_ends : (given : Numbered) (root : Tree) (m : Module) (k : ℕ) (ts : List form.ClosedTerm) (r : LpId) (made rest : List LpId) → made ≡ r ∷ rest
    → IsTermWalk given root m k [] ts made → Holds m.table r.0 root
term_ends given root m k ts r made rest s v =
    let w = subst (IsTermWalk given root m k [] ts) s v in
    let e : tree_at m.table r.0 ∷ trees_at m.table rest ≡ root ∷ [] = w.makes in
    let same : tree_at m.table r.0 ≡ root = cc in
    tree_at-Holds m.table r.0 w.known.0 ∙ ap Some same

module _ (given : Numbered) (root : Tree) (m : Module) (k depth : ℕ) (works : List TermWork) (made : List LpId) where
  -- a free variable
  pub term_leaf : (now : Module) (j : ℕ) (cs : List form.ClosedTerm) (after : List LpId) → first no_term cs ≡ form.ClosedTerm.parameter j → Grows m now
      → IsPut made after now.table (Var (depth - (k + j) - 1))
      → IsTermWalk given root m k (term_work.Next depth ∷ works) cs made → IsTermWalk given root now k works (others cs) after
  term_leaf now j cs after e g p w =
      let of = subst (λ c. IsTermOf given c w.makes.0) e w.makes.1 in
      let is = ap (λ n. Var (depth - (n + j) - 1)) (sym w.numbered.count) ∙ sym (term-parameter given j depth w.makes.0 of) in
      term_made given root m now k works (others cs) made after _ g w.numbered w.known (subst (IsPut made after now.table) is p) w.makes.3

  -- a number
  pub term_number : (now : Module) (i : ℕ) (ts : List form.ClosedTerm) (after : List LpId) → Grows m now → IsPut made after now.table (Var i)
      → IsTermWalk given root m k (term_work.Next depth ∷ works) (term_step (TermNode.Bound i) ts) made → IsTermWalk given root now k works ts after
  term_number now i ts after g p w =
      term_made given root m now k works ts made after _ g w.numbered w.known
      (subst (IsPut made after now.table) (sym (term-bound given i depth w.makes.0 w.makes.1)) p) w.makes.3

  -- a constant, once the tree of its type is made
  module _ (n : Name) (ty : ClosedType) (ts : List form.ClosedTerm)
      (w : IsTermWalk given root m k (term_work.Next depth ∷ works) (term_step (TermNode.Constant n ty) ts) made) where
    constant_of : IsConstantOf given n (closed_type_view ty) depth w.makes.0
    constant_of = term-constant given n (closed_type_view ty) depth w.makes.0 w.makes.1

    pub constant_type : (t : HolType) × IsTypeToMake given t m (closed_type_view ty)
    constant_type = (constant_of.ty, record { numbered = IsNumbered-names w.numbered; of = constant_of.of })

    pub constant_typed : (now : Module) (r : LpId) → Grows m now → Holds now.table r.0 (type_tree given.symbols (types_under given depth) constant_type.0)
        → IsTypeTree given.symbols (types_under given depth) constant_type.0 now n r
    unfolding constant_of constant_type
    constant_typed now r g h =
        let numbered = IsNumbered-Grows g given k w.numbered in
        record {
          held = numbered.held;
          known = Holds-within now.table r.0 _ h;
          is = Holds-tree_at now.table r.0 _ h;
          told = subst (λ d. TellsConstant d given.symbols n constant_of.ty) (sym numbered.declared) constant_of.told;
        }

    pub constant_made : (now : Module) (after : List LpId) → Grows m now
        → IsPut made after now.table (constant_tree given.symbols (types_under given depth) n constant_type.0) → IsTermWalk given root now k works ts after
    unfolding constant_of constant_type
    constant_made now after g p = term_made given root m now k works ts made after _ g w.numbered w.known
        (subst (IsPut made after now.table) (sym constant_of.is) p) w.makes.3

  -- an application
  pub application_set_out : (ts : List form.ClosedTerm) → IsTermWalk given root m k (term_work.Next depth ∷ works) (term_step TermNode.App ts) made
      → IsTermWalk given root m k (term_work.Next depth ∷ term_work.Next depth ∷ term_work.Apply ∷ works) ts made
  application_set_out ts w =
      let a = term-application given (first no_term ts) (first no_term (others ts)) depth w.makes.0 w.makes.1 in
      record {
        numbered = w.numbered;
        known = w.known;
        makes = (
          a.function,
          a.function_of,
          w.makes.2,
          (a.argument, a.argument_of, w.makes.2, subst (λ t. MakesTerms given root works (others (others ts)) (t ∷ trees_at m.table made)) a.is w.makes.3),
        );
      }

  -- an abstraction, once the tree of its variable's type is made
  module _ (ty : ClosedType) (ts : List form.ClosedTerm) (w : IsTermWalk given root m k (term_work.Next depth ∷ works) (term_step (TermNode.Lam ty) ts) made)
    where
      abstraction_of : IsAbstractionOf given (closed_type_view ty) (first no_term ts) depth w.makes.0
      abstraction_of = term-abstraction given (closed_type_view ty) (first no_term ts) depth w.makes.2 w.makes.0 w.makes.1

      pub abstraction_type : (t : HolType) × IsTypeToMake given t m (closed_type_view ty)
      abstraction_type = (abstraction_of.ty, record { numbered = IsNumbered-names w.numbered; of = abstraction_of.ty_of })

      pub abstraction_set_out : (now : Module) (within : ℕ) (after : List LpId) → within ≡ depth + 1 → Grows m now
          → IsPut made after now.table (type_tree given.symbols (types_under given depth) abstraction_type.0)
          → IsTermWalk given root now k (term_work.Next within ∷ term_work.Bind ∷ works) ts after
      unfolding abstraction_of abstraction_type
      abstraction_set_out now within after e g p =
          let a = abstraction_of in
          let own = w.makes.2 in
          let next : suc depth ≡ within = omega (arith, e) in
          let more : length given.names + length given.variables ≤ within = omega (arith, e, own) in
          let tree = subst (λ j. term_tree given.symbols (scope_under given depth) w.makes.0
          ≡ Lam (term_of (type_tree given.symbols (types_under given depth) a.ty)) (term_tree given.symbols (scope_under given j) a.body)) next a.is in
          term_made given root m now k (term_work.Next within ∷ term_work.Bind ∷ works) ts made after _ g w.numbered w.known p
          (a.body, a.body_of, more, subst (λ t. MakesTerms given root works (others ts) (t ∷ trees_at m.table made)) tree w.makes.3)

module _ (given : Numbered) (root : Tree) (m : Module) (k : ℕ) (works : List TermWork) (ts : List form.ClosedTerm) where
  -- a function and its argument
  pub application_two : (made : List LpId) → IsTermWalk given root m k (term_work.Apply ∷ works) ts made → 1 < length made
  application_two [] w = absurd w.makes
  application_two (x ∷ []) w = absurd w.makes
  application_two (x ∷ f ∷ rest) w = omega arith

  pub application_parts : (x f : LpId) (made rest : List LpId) → made ≡ x ∷ f ∷ rest → IsTermWalk given root m k (term_work.Apply ∷ works) ts made
      → (f.0 < length m.table) × (x.0 < length m.table)
  application_parts x f made rest e v = let w = subst (IsTermWalk given root m k (term_work.Apply ∷ works) ts) e v in (w.known.1.0, w.known.0)

  pub application_made : (x f : LpId) (made rest after : List LpId) (now : Module) → made ≡ x ∷ f ∷ rest → Grows m now
      → IsPut rest after now.table (App (tree_at m.table f.0) (tree_at m.table x.0))
      → IsTermWalk given root m k (term_work.Apply ∷ works) ts made → IsTermWalk given root now k works ts after
  application_made x f made rest after now e g p v =
      let w = subst (IsTermWalk given root m k (term_work.Apply ∷ works) ts) e v in
      term_made given root m now k works ts rest after _ g w.numbered w.known.1.1 p w.makes

  -- the type of a variable and a body
  pub abstraction_two : (made : List LpId) → IsTermWalk given root m k (term_work.Bind ∷ works) ts made → 1 < length made
  abstraction_two [] w = absurd w.makes
  abstraction_two (b ∷ []) w = absurd w.makes
  abstraction_two (b ∷ a ∷ rest) w = omega arith

  pub abstraction_parts : (b a : LpId) (made rest : List LpId) → made ≡ b ∷ a ∷ rest → IsTermWalk given root m k (term_work.Bind ∷ works) ts made
      → (a.0 < length m.table) × (b.0 < length m.table)
  abstraction_parts b a made rest e v = let w = subst (IsTermWalk given root m k (term_work.Bind ∷ works) ts) e v in (w.known.1.0, w.known.0)

  pub abstraction_made : (b a : LpId) (made rest after : List LpId) (now : Module) → made ≡ b ∷ a ∷ rest → Grows m now
      → IsPut rest after now.table (Lam (term_of (tree_at m.table a.0)) (tree_at m.table b.0))
      → IsTermWalk given root m k (term_work.Bind ∷ works) ts made → IsTermWalk given root now k works ts after
  abstraction_made b a made rest after now e g p v =
      let w = subst (IsTermWalk given root m k (term_work.Bind ∷ works) ts) e v in
      term_made given root m now k works ts rest after _ g w.numbered w.known.1.1 p w.makes
