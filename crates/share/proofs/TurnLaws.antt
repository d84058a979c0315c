-- Turns and what they tell.
use Rattle.std.proofs.Common.{◌≡◌, ℕ, ◌<◌, ◌≤◌, ◌^◌, refl, sym, ap, subst, ◌∙◌, Bool, true, false, List, [], length, Option, None, Some, arith}
use Rattle.std.specs.Prelude.{nat_eq, option_map, option_and_then, IfSome, IfNone}
use Rattle.std.specs.Bool.{OnTrue}
use Rattle.std.proofs.lemmas.Bool.{eqb-true}
use Rattle.lp_spec.specs.Trees.{Tree, SortType, Var, Sym, App, Lam, Pi, loose, tree_eq}
use Rattle.lp_spec.specs.Modules.{Declaration, arr_of}
use Rattle.lp_term.specs.declared.LpId.{LpId}
use Rattle.lp_term.specs.declared.LpNode.{LpNode}
use Rattle.lp_term.specs.declared.LpNode.TheVariants as node
use Rattle.lp_binding_laws.specs.TreeEquality.{tree_eq-refl, tree_eq-true}
use Rattle.lp_term.specs.Tables.{tree_at, tree_of_node, Holds, IsDistinct, Keeps}
use Rattle.lp_term.specs.TableLaws.{tree_at-Holds, Holds-tree_at, Holds-within, tree_at-Stays}
use Rattle.share_spec.specs.Abbreviations.{or_else, constant_type, is_simple, simple_part, value_type, term_type}
use Rattle.share.specs.declared.typing.Turn.{Turn}
use Rattle.share.specs.declared.typing.Turn.TheVariants as turn
use Rattle.share.proofs.TypingLaws.{constant_part-plain, simple_part-simple, term-abstraction, term-application, term-closed, term-variable}
use Rattle.share.specs.Typings.{under_type, answer, constant_part, context, entry, value_of, values_of, AreAnswers, IsAsked, IsContext, IsQuestion, IsSameFor, Tells, Turns}

-- a tree that is no product asks for a constant
asks-constant : (m : List Declaration) (ts : List Tree) (n : LpNode) → ((a b : LpId) → n ≡ node.Pi a b → ⊥)
    → (answer m (tree_of_node ts n) ≡ constant_type m [] (tree_of_node ts n)) × IsAsked m (tree_of_node ts n)
asks-constant m ts node.SortType h = (refl, tt)
asks-constant m ts node.SortKind h = (refl, tt)
asks-constant m ts (node.Var n) h = (refl, tt)
asks-constant m ts (node.Sym n) h = (refl, tt)
asks-constant m ts (node.App f x) h = (refl, tt)
asks-constant m ts (node.Lam f x) h = (refl, tt)
asks-constant m ts (node.Pi f x) h = absurd (h f x refl)

pub none_noted : (result : Option (Option LpId)) (P : Type 0) → P → IfNone result P
none_noted None P p = p
none_noted (Some r) P p = tt

pub asked : (m : List Declaration) (ts : List Tree) (id : ℕ) (n : LpNode) → Holds ts id (tree_of_node ts n) → ((a b : LpId) → n ≡ node.Pi a b → ⊥)
    → IsAsked m (tree_at ts id)
asked m ts id n e h = subst (IsAsked m) (sym (Holds-tree_at ts id (tree_of_node ts n) e)) (asks-constant m ts n h).1

-- what is noted for a constant
pub constant-noted : (ts : List Tree) (id : ℕ) (n : LpNode) (noted : ℕ → Option (Option LpId)) (result : Option (Option LpId)) → Holds ts id (tree_of_node ts n)
    → ((a b : LpId) → n ≡ node.Pi a b → ⊥) → result ≡ noted id
    → (m : List Declaration) → AreAnswers m ts noted → IfSome result (λ r. Tells ts r (constant_type m [] (tree_at ts id)))
constant-noted ts id n noted None e h i m a = tt
constant-noted ts id n noted (Some r) e h i m a =
    let t = Holds-tree_at ts id (tree_of_node ts n) e in
    let w = a.each id r (sym i) in
    (w.1.0, w.1.1 ∙ ap (answer m) t ∙ (asks-constant m ts n h).0 ∙ ap (constant_type m []) (sym t))

-- what is noted for a term
pub term-noted : (ts new : List Tree) (q c t : ℕ) (noted : ℕ → Option (Option LpId)) (r : Option LpId) → Holds new q (Pi (tree_at ts c) (tree_at ts t))
    → Keeps ts new → Some r ≡ noted q
    → (m : List Declaration) → AreAnswers m ts noted → Tells new r (term_type m (context (tree_at ts c)) (tree_at ts t))
term-noted ts new q c t noted r e k i m a =
    let w = a.each q r (sym i) in
    let same : tree_at ts q ≡ Pi (tree_at ts c) (tree_at ts t) = tree_at-Stays k.stays q w.0 ∙ Holds-tree_at new q _ e in
    tells-more r (term_type m (context (tree_at ts c)) (tree_at ts t)) (w.1.0, w.1.1 ∙ ap (answer m) same)
  where
    tells-more : (r : Option LpId) (o : Option Tree) → Tells ts r o → Tells new r o
    tells-more None o h = (tt, h.1)
    tells-more (Some id) o h = ((let l = k.longer in omega (arith, l, h.0)), ap Some (sym (tree_at-Stays k.stays id.0 h.0)) ∙ h.1)

-- The value of functions at an argument
pub value-told : (m : List Declaration) (ts new : List Tree) (c fs x : ℕ) (ty : LpId) (turn' : Turn) (r : Option LpId) → Keeps ts new → fs < length ts → turn'
    ≡ turn.Known (Some ty) → Turns m new turn' (term_type m (context (tree_at ts c)) (tree_at ts x))
    → Tells new r (value_type (tree_at new fs) (tree_at new ty.0)) → Tells new r (value_of m (tree_at ts c) (tree_at ts fs) (tree_at ts x))
value-told m ts new c fs x ty turn' r k l e h v =
    let w : Tells new (Some ty) (term_type m (context (tree_at ts c)) (tree_at ts x)) =
    subst (λ y. Turns m new y (term_type m (context (tree_at ts c)) (tree_at ts x))) e h in
    (v.0, v.1 ∙ ap (λ f. value_type f (tree_at new ty.0)) (sym (tree_at-Stays k.stays fs l)) ∙ ap (option_and_then (value_type (tree_at ts fs))) w.1)

pub function-told : (m : List Declaration) (ts new new' : List Tree) (c f x : ℕ) (fs : LpId) (turn' result : Turn) → Keeps ts new → c < length ts
    → x < length ts → turn' ≡ turn.Known (Some fs) → Turns m new turn' (term_type m (context (tree_at ts c)) (tree_at ts f))
    → Turns m new' result (value_of m (tree_at new c) (tree_at new fs.0) (tree_at new x))
    → Turns m new' result (values_of m (tree_at ts c) (tree_at ts f) (tree_at ts x))
function-told m ts new new' c f x fs turn' result k l n e h v =
    let w : Tells new (Some fs) (term_type m (context (tree_at ts c)) (tree_at ts f)) =
    subst (λ y. Turns m new y (term_type m (context (tree_at ts c)) (tree_at ts f))) e h in
    subst (Turns m new' result)
    (ap (λ y. value_of m y (tree_at new fs.0) (tree_at new x)) (sym (tree_at-Stays k.stays c l))
    ∙ ap (λ y. value_of m (tree_at ts c) (tree_at new fs.0) y) (sym (tree_at-Stays k.stays x n))
    ∙ ap (option_and_then (λ y. value_of m (tree_at ts c) y (tree_at ts x))) w.1) v

-- a question about a term
pub term-asked : (ts new : List Tree) (q c t : ℕ) → Holds new q (Pi (tree_at ts c) (tree_at ts t)) → (m : List Declaration) → IsContext m (tree_at ts c)
    → IsAsked m (tree_at new q)
term-asked ts new q c t e m h = subst (IsAsked m) (sym (Holds-tree_at new q _ e)) h

-- what a table tells, it tells when it has grown
pub Tells-Keeps : (ts new : List Tree) (r : Option LpId) (o : Option Tree) → Keeps ts new → Tells ts r o → Tells new r o
Tells-Keeps ts new None o k h = (tt, h.1)
Tells-Keeps ts new (Some id) o k h = ((let l = k.longer in omega (arith, l, h.0)), ap Some (sym (tree_at-Stays k.stays id.0 h.0)) ∙ h.1)

-- the answers stay when the table has grown
pub AreAnswers-Keeps : (m : List Declaration) (ts new : List Tree) (noted : ℕ → Option (Option LpId)) → Keeps ts new → AreAnswers m ts noted
    → AreAnswers m new noted
AreAnswers-Keeps m ts new noted k a = record {
  each = λ n r e.
      let w = a.each n r e in
      ((let l = k.longer in omega (arith, l, w.0)), subst (λ t. Tells new r (answer m t)) (tree_at-Stays k.stays n w.0) (Tells-Keeps ts new r _ k w.1));
}

-- a module's answers and a context, when the table has grown
pub ready-Keeps : (ts new : List Tree) (c : ℕ) (noted : ℕ → Option (Option LpId)) → Keeps ts new → c < length ts → (m : List Declaration)
    × IsContext m (tree_at ts c) × AreAnswers m ts noted → (m : List Declaration) × IsContext m (tree_at new c) × AreAnswers m new noted
ready-Keeps ts new c noted k l h = (h.0, subst (IsContext h.0) (tree_at-Stays k.stays c l) h.1, AreAnswers-Keeps h.0 ts new noted k h.2)

-- numbers that are equal are of one tree, and of others none
pub same-number : (ts : List Tree) → IsDistinct ts → (a b : ℕ) → a < length ts → b < length ts → nat_eq a b ≡ tree_eq (tree_at ts a) (tree_at ts b)
same-number ts d a b l n = go (nat_eq a b) (tree_eq (tree_at ts a) (tree_at ts b)) refl refl
  where
    go : (s t : Bool) → nat_eq a b ≡ s → tree_eq (tree_at ts a) (tree_at ts b) ≡ t → s ≡ t
    go true true e f = refl
    go false false e f = refl
    go true false e f = let w : a ≡ b = eqb-true a b e in let u = ap (λ i. tree_eq (tree_at ts a) (tree_at ts i)) w ∙ f in let v =
        tree_eq-refl (tree_at ts a) in absurd (cc)
    go false true e f =
        let w : a ≡ b = d.each a b (tree_at ts a) (tree_at-Holds ts a l) (tree_at-Holds ts b n ∙ ap Some (sym (tree_eq-true (tree_at ts a) (tree_at ts b) f)))
        in
        absurd (grind (arith, e, w))

-- An abstraction over the terms of a type
pub abstraction-told : (m : List Declaration) (ts new : List Tree) (c d b : ℕ) (ty : LpId) (turn' result : Turn) → turn' ≡ turn.Known (Some ty)
    → Turns m ts turn' (simple_part m [] (tree_at ts d)) → IsContext m (tree_at ts c)
    → Turns m new result (under_type m (tree_at ts ty.0) (tree_at ts c) (tree_at ts b))
    → Turns m new result (term_type m (context (tree_at ts c)) (Lam (tree_at ts d) (tree_at ts b)))
abstraction-told m ts new c d b ty turn' result e h k v =
    let w : Tells ts (Some ty) (simple_part m [] (tree_at ts d)) = subst (λ y. Turns m ts y (simple_part m [] (tree_at ts d))) e h in
    subst (Turns m new result) (ap (option_and_then (λ a. under_type m a (tree_at ts c) (tree_at ts b))) w.1
    ∙ sym (term-abstraction m (tree_at ts c) (tree_at ts d) (tree_at ts b) k)) v

pub part-told-simple : (m : List Declaration) (ts : List Tree) (d : ℕ) (ty : LpId) (turn' : Turn) → turn' ≡ turn.Known (Some ty)
    → Turns m ts turn' (simple_part m [] (tree_at ts d)) → is_simple m [] (tree_at ts ty.0) ≡ true
part-told-simple m ts d ty turn' e h =
    let w : Tells ts (Some ty) (simple_part m [] (tree_at ts d)) = subst (λ y. Turns m ts y (simple_part m [] (tree_at ts d))) e h in
    simple_part-simple m (tree_at ts d) (tree_at ts ty.0) (sym w.1)

pub part-told-known : (m : List Declaration) (ts : List Tree) (d : ℕ) (ty : LpId) (turn' : Turn) → turn' ≡ turn.Known (Some ty)
    → Turns m ts turn' (simple_part m [] (tree_at ts d)) → ty.0 < length ts
part-told-known m ts d ty turn' e h =
    let w : Tells ts (Some ty) (simple_part m [] (tree_at ts d)) = subst (λ y. Turns m ts y (simple_part m [] (tree_at ts d))) e h in w.0

pub abstraction-none : (m : List Declaration) (ts new : List Tree) (c d b : ℕ) → Tells ts None (simple_part m [] (tree_at ts d)) → IsContext m (tree_at ts c)
    → Tells new None (term_type m (context (tree_at ts c)) (Lam (tree_at ts d) (tree_at ts b)))
abstraction-none m ts new c d b h k =
    (tt, ap (option_and_then (λ a. under_type m a (tree_at ts c) (tree_at ts b))) h.1 ∙ sym (term-abstraction m (tree_at ts c) (tree_at ts d) (tree_at ts b) k))

-- An application
pub application-constant : (m : List Declaration) (ts : List Tree) (c t f x : ℕ) (ty : LpId) → Holds ts t (App (tree_at ts f) (tree_at ts x))
    → Tells ts (Some ty) (constant_part m (tree_at ts t)) → Tells ts (Some ty) (term_type m (context (tree_at ts c)) (tree_at ts t))
application-constant m ts c t f x ty e h =
    let s = Holds-tree_at ts t (App (tree_at ts f) (tree_at ts x)) e in (
      h.0,
      ap (λ o. or_else o (values_of m (tree_at ts c) (tree_at ts f) (tree_at ts x))) (h.1 ∙ ap (constant_part m) s)
          ∙ sym (ap (term_type m (context (tree_at ts c))) s ∙ term-application m (tree_at ts c) (tree_at ts f) (tree_at ts x)),
    )

pub application-function : (m : List Declaration) (ts new : List Tree) (c t f x : ℕ) (result : Turn) → Holds ts t (App (tree_at ts f) (tree_at ts x))
    → Tells ts None (constant_part m (tree_at ts t)) → Turns m new result (values_of m (tree_at ts c) (tree_at ts f) (tree_at ts x))
    → Turns m new result (term_type m (context (tree_at ts c)) (tree_at ts t))
application-function m ts new c t f x result e h v =
    let s = Holds-tree_at ts t (App (tree_at ts f) (tree_at ts x)) e in
    subst (Turns m new result) (ap (λ o. or_else o (values_of m (tree_at ts c) (tree_at ts f) (tree_at ts x))) (h.1 ∙ ap (constant_part m) s)
    ∙ sym (ap (term_type m (context (tree_at ts c))) s ∙ term-application m (tree_at ts c) (tree_at ts f) (tree_at ts x))) v

-- Under a binder of the terms of a type
pub under-ready : (ts new : List Tree) (ty c inner : ℕ) (noted : ℕ → Option (Option LpId)) → Keeps ts new → Holds new inner (Pi (tree_at ts ty) (tree_at ts c))
    → (m : List Declaration) × (is_simple m [] (tree_at ts ty) ≡ true) × IsContext m (tree_at ts c) × AreAnswers m ts noted
    → (m : List Declaration) × IsContext m (tree_at new inner) × AreAnswers m new noted
under-ready ts new ty c inner noted k e h = (h.0, subst (IsContext h.0) (sym (Holds-tree_at new inner _ e)) (h.1, h.2), AreAnswers-Keeps h.0 ts new noted k h.3)

pub under-turn : (m : List Declaration) (ts new new' : List Tree) (ty c b inner : ℕ) (t : Turn) (noted : ℕ → Option (Option LpId)) → Keeps ts new
    → b < length ts → Holds new inner (Pi (tree_at ts ty) (tree_at ts c))
    → is_simple m [] (tree_at ts ty) ≡ true → IsContext m (tree_at ts c) → AreAnswers m ts noted
    → ((m : List Declaration) → IsContext m (tree_at new inner) → AreAnswers m new noted
    → Turns m new' t (term_type m (context (tree_at new inner)) (tree_at new b)))
    → Turns m new' t (term_type m (context (Pi (tree_at ts ty) (tree_at ts c))) (tree_at ts b))
under-turn m ts new new' ty c b inner t noted k l e s h a f =
    let p = Holds-tree_at new inner _ e in
    subst (Turns m new' t) (ap (λ y. term_type m (context y) (tree_at new b)) p
    ∙ ap (term_type m (context (Pi (tree_at ts ty) (tree_at ts c)))) (sym (tree_at-Stays k.stays b l)))
    (f m (subst (IsContext m) (sym p) (s, h)) (AreAnswers-Keeps m ts new noted k a))

pub under-some : (m : List Declaration) (ts new made : List Tree) (ty : ℕ) (c b : Tree) (t : Turn) (values fs : LpId) → Keeps ts new → ty < length ts → t
    ≡ turn.Known (Some values) → Turns m new t (term_type m (context (Pi (tree_at ts ty) c)) b)
    → Holds made fs.0 (arr_of (tree_at new ty) (tree_at new values.0)) → Tells made (Some fs) (under_type m (tree_at ts ty) c b)
under-some m ts new made ty c b t values fs k l e h held =
    let w : Tells new (Some values) (term_type m (context (Pi (tree_at ts ty) c)) b) =
    subst (λ y. Turns m new y (term_type m (context (Pi (tree_at ts ty) c)) b)) e h in (
      Holds-within made fs.0 _ held,
      ap Some (Holds-tree_at made fs.0 _ held ∙ ap (λ y. arr_of y (tree_at new values.0)) (sym (tree_at-Stays k.stays ty l)))
          ∙ ap (option_map (arr_of (tree_at ts ty))) w.1,
    )

pub under-known : (m : List Declaration) (new : List Tree) (o : Option Tree) (t : Turn) (values : LpId) → t ≡ turn.Known (Some values) → Turns m new t o
    → values.0 < length new
under-known m new o t values e h = let w : Tells new (Some values) o = subst (λ y. Turns m new y o) e h in w.0

pub under-none : (m : List Declaration) (new : List Tree) (a c b : Tree) (t : Turn) → t ≡ turn.Known None → Turns m new t (term_type m (context (Pi a c)) b)
    → Tells new None (under_type m a c b)
under-none m new a c b t e h =
    let w : Tells new None (term_type m (context (Pi a c)) b) = subst (λ y. Turns m new y (term_type m (context (Pi a c)) b)) e h in
    (tt, ap (option_map (arr_of a)) w.1)

pub under-needs : (m : List Declaration) (new : List Tree) (o : Option Tree) (t : Turn) (q : LpId) → t ≡ turn.Needs q → Turns m new t o → IsQuestion m new q
under-needs m new o t q e h = subst (λ y. Turns m new y o) e h

-- what a turn tells that knows no type, and one that knows this
pub known-none : (m : List Declaration) (ts : List Tree) (o : Option Tree) (t : Turn) → t ≡ turn.Known None → Turns m ts t o → Tells ts None o
known-none m ts o t e h = subst (λ y. Turns m ts y o) e h

pub known-some : (m : List Declaration) (ts : List Tree) (o : Option Tree) (t : Turn) (ty : LpId) → t ≡ turn.Known (Some ty) → Turns m ts t o
    → Tells ts (Some ty) o
known-some m ts o t ty e h = subst (λ y. Turns m ts y o) e h

-- A variable, and a symbol
pub variable-told : (m : List Declaration) (ts : List Tree) (c t n : ℕ) (r : Option LpId) → Holds ts t (Var n) → IsContext m (tree_at ts c)
    → Tells ts r (entry (tree_at ts c) n) → Tells ts r (term_type m (context (tree_at ts c)) (tree_at ts t))
variable-told m ts c t n r e h v =
    (v.0, v.1 ∙ sym (ap (term_type m (context (tree_at ts c))) (Holds-tree_at ts t (Var n) e) ∙ term-variable m (tree_at ts c) n h))

pub symbol-told : (m : List Declaration) (ts : List Tree) (c t s : ℕ) (r : Turn) → Holds ts t (Sym s) → Turns m ts r (constant_part m (tree_at ts t))
    → Turns m ts r (term_type m (context (tree_at ts c)) (tree_at ts t))
symbol-told m ts c t s r e v =
    let p = Holds-tree_at ts t (Sym s) e in
    subst (Turns m ts r) (ap (constant_part m) p ∙ sym (ap (term_type m (context (tree_at ts c))) p ∙ constant_part-plain m (tree_at ts c) (Sym s))) v

-- A context in which a tree has the same type
pub same-closed : (m : List Declaration) (new : List Tree) (c t : Tree) (r : ℕ) (b : Bool) → OnTrue b (0 < 2 ^ 64 → loose t ≤ 0) → b ≡ true
    → Holds new r SortType → IsContext m c → IsSameFor m c t (tree_at new r)
same-closed m new c t r b l e h i = let z : 0 < 2 ^ 64 =
    omega arith in subst (IsSameFor m c t) (sym (Holds-tree_at new r SortType h))
    (tt, term-closed m c t i (subst (λ d. OnTrue d (0 < 2 ^ 64 → loose t ≤ 0)) e l z))

pub same-noted : (ts mid new : List Tree) (q c d t : ℕ) (noted : ℕ → Option (Option LpId)) (r : Option LpId) → Keeps ts mid → t < length ts
    → Holds new q (Pi (tree_at mid d) (tree_at mid t)) → Keeps mid new → Some r ≡ noted q
    → (m : List Declaration) → IsSameFor m (tree_at ts c) (tree_at ts t) (tree_at mid d) → AreAnswers m ts noted
    → Tells new r (term_type m (context (tree_at ts c)) (tree_at ts t))
same-noted ts mid new q c d t noted r k l e k' i m same a =
    subst (Tells new r) (ap (term_type m (context (tree_at mid d))) (sym (tree_at-Stays k.stays t l)) ∙ same.1)
    (term-noted mid new q d t noted r e k' i m (AreAnswers-Keeps m ts mid noted k a))

pub same-asked : (mid new : List Tree) (q : LpId) (d t : ℕ) → Holds new q.0 (Pi (tree_at mid d) (tree_at mid t)) → (m : List Declaration)
    → IsContext m (tree_at mid d) → IsQuestion m new q
same-asked mid new q d t e m h = (Holds-within new q.0 _ e, term-asked mid new q.0 d t e m h)
