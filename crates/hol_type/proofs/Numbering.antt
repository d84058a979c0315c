-- Where the numbers of nodes are found as entries come and go.
use Rattle.std.proofs.Common.{◌≡◌, ℕ, zero, suc, ◌+◌, ◌<◌, ◌≤◌, refl, sym, ap, ◌∙◌, subst, arith, Bool, true, false, cond, List, [], ◌∷◌, ◌++◌, length, Option, None, Some, take, ◌⊎◌, ⊎_elim, inl, inr}
use Rattle.std.specs.Prelude.{slice_get}
use Rattle.std.specs.Ordering.{is_eq}
use Rattle.std.specs.Cmp.{Equal-is}
use Rattle.std.specs.Map.{lookup}
use Rattle.std.specs.BTreeMap.{BTreeMap, is_at}
use Rattle.std.proofs.lemmas.Bool.Decides.{eqb_tells}
use Rattle.std.proofs.lemmas.Cmp.{tied_itself}
use Rattle.std.proofs.lemmas.List.{length-take}
use Rattle.std.proofs.lemmas.Option.{slice_get_within, same_Some}
use Rattle.hol_laws.specs.PlaceLaws.{slice_get-append, slice_get-last, slice_get-one_more}
use Rattle.hol_type.specs.declared.node.Node.{Node}
use Rattle.hol_type.specs.declared.node.Entry.{Entry}
use Rattle.hol_type.specs.contracts.node.NodeOrd.TheImpl.Laws.{total-law, matches_eq-law}
use Rattle.hol_type.specs.contracts.node.NodePartialEq.TheImpl as node_eq
use Rattle.hol_type.specs.Numbered.{node_cmp, number_in, AreAlike, AreNumbered}

pub AreAlike-refl : (s : Node) → AreAlike s s
AreAlike-refl s = ap is_eq (tied_itself total-law s)

-- nodes that are equal by their test are alike
pub alike_from : (s t : Node) → node_eq.eq-value.it s t ≡ true → AreAlike s t
alike_from s t h = sym (matches_eq-law s t) ∙ h

-- nodes that are alike compare alike to every other
alike_cmp : (s t u : Node) → AreAlike s t → node_cmp s u ≡ node_cmp t u
alike_cmp s t u e = total-law.congr s t u ((Equal-is (node_cmp s t)).0 e)

-- nodes that are alike have one number
pub number_in-alike : (m : BTreeMap Node ℕ) (s t : Node) → AreAlike s t → number_in m s ≡ number_in m t
number_in-alike m s t e = ap (λ (f : Node → Bool). lookup f m.entries) (λ i u. is_eq (alike_cmp s t u e i))

-- a tree of nodes after a node like this one has got a number
pub alike_updates : (old new : Node → Option ℕ) (copy s : Node) (n : ℕ) → AreAlike copy s
    → ((u : Node) → new u ≡ cond (is_eq (node_cmp copy u)) (Some n) (old u)) → (u : Node) → new u ≡ cond (is_eq (node_cmp s u)) (Some n) (old u)
alike_updates old new copy s n e updates u = updates u ∙ ap (λ o. cond (is_eq o) (Some n) (old u)) (alike_cmp copy s u e)

-- an entry whose node has no number is new
pub none_alike : (es : List Entry) (m : BTreeMap Node ℕ) (s : Node) → AreNumbered es (number_in m) → number_in m s ≡ None → (j : ℕ) (o : Entry) → slice_get es j
    ≡ Some o → AreAlike o.node s → ⊥
none_alike es m s t none j o at e = absurd (let w = sym none ∙ sym (number_in-alike m o.node s e) ∙ t.each j o at in cc)

-- an entry that is put last
pub AreNumbered-more : (es : List Entry) (m : BTreeMap Node ℕ) (new : Node → Option ℕ) (e : Entry) → AreNumbered es (number_in m) → number_in m e.node ≡ None
    → ((u : Node) → new u ≡ cond (is_eq (node_cmp e.node u)) (Some (length es)) (number_in m u)) → AreNumbered (es ++ e ∷ []) new
AreNumbered-more es m new e t none updates = record { each = each; told = told }
  where
    same : (u : Node) → AreAlike e.node u → new u ≡ Some (length es)
    same u q = updates u ∙ ap (λ b. cond b (Some (length es)) (number_in m u)) q

    other : (u : Node) → is_eq (node_cmp e.node u) ≡ false → new u ≡ number_in m u
    other u q = updates u ∙ ap (λ b. cond b (Some (length es)) (number_in m u)) q

    old_each : (i : ℕ) (o : Entry) → slice_get es i ≡ Some o → (b : Bool) → is_eq (node_cmp e.node o.node) ≡ b → new o.node ≡ Some i
    old_each i o at true q = absurd (let w = sym none ∙ number_in-alike m e.node o.node q ∙ t.each i o at in cc)
    old_each i o at false q = other o.node q ∙ t.each i o at

    each : (i : ℕ) (o : Entry) → slice_get (es ++ e ∷ []) i ≡ Some o → new o.node ≡ Some i
    each i o at = ⊎_elim
        (λ k. old_each i o k (is_eq (node_cmp e.node o.node)) refl)
        (λ k. ap (λ (w : Entry). new w.node) (sym k.1) ∙ same e.node (AreAlike-refl e.node) ∙ ap Some (sym k.0))
        (slice_get-one_more es e o i at)

    told_by : (i : ℕ) (s : Node) → new s ≡ Some i → (b : Bool) → is_eq (node_cmp e.node s) ≡ b → (o : Entry) × (slice_get (es ++ e ∷ []) i ≡ Some o)
        × AreAlike o.node s
    told_by i s k true q = (e, ap (slice_get (es ++ e ∷ [])) (sym (same_Some (length es) i (sym (same s q) ∙ k))) ∙ slice_get-last es e, q)
    told_by i s k false q = let o = t.told i s (sym (other s q) ∙ k) in (o.0, slice_get-append es (e ∷ []) i o.0 o.1, o.2)

    told : (i : ℕ) (s : Node) → new s ≡ Some i → (o : Entry) × (slice_get (es ++ e ∷ []) i ≡ Some o) × AreAlike o.node s
    told i s k = told_by i s k (is_eq (node_cmp e.node s)) refl

-- entries where nothing changed
pub AreNumbered-same : (es new : List Entry) (m n : BTreeMap Node ℕ) → AreNumbered es (number_in m) → new ≡ es → n.entries ≡ m.entries
    → AreNumbered new (number_in n)
AreNumbered-same es new m n t a e =
    subst (λ l. AreNumbered l (number_in n)) (sym a)
    (subst (λ (l : List (Node × ℕ)). AreNumbered es (λ s. lookup (is_at (node_cmp s)) l)) (sym e) t)

-- a tree of nodes from which those from the number `len` on are taken, as far as `number`
pub record Forgotten (old now : Node → Option ℕ) (len number : ℕ) : Type 0 where
  pub stays : (s : Node) (n : ℕ) → n < len → old s ≡ Some n → now s ≡ Some n
  pub told : (s : Node) (n : ℕ) → now s ≡ Some n → (old s ≡ Some n) × (n < number → n < len)

pub Forgotten-none : (old : Node → Option ℕ) (len : ℕ) → Forgotten old old len len
Forgotten-none old len = record { stays = λ s n lt h. h; told = λ s n h. (h, λ k. k) }

pub Forgotten-more : (es : List Entry) (m : BTreeMap Node ℕ) (now new : Node → Option ℕ) (len number : ℕ) (e : Entry) → AreNumbered es (number_in m)
    → slice_get es number ≡ Some e → len ≤ number
    → Forgotten (number_in m) now len number → ((u : Node) → new u ≡ cond (is_eq (node_cmp e.node u)) None (now u))
    → Forgotten (number_in m) new len (number + 1)
Forgotten-more es m now new len number e a at low t updates = record {
  stays = λ s n lt h. stays s n lt h (is_eq (node_cmp e.node s)) refl;
  told = λ s n h. told s n h (is_eq (node_cmp e.node s)) refl;
}
  where
    stays : (s : Node) (n : ℕ) → n < len → number_in m s ≡ Some n → (b : Bool) → is_eq (node_cmp e.node s) ≡ b → new s ≡ Some n
    stays s n lt h true q = absurd (let k = same_Some n number (sym h ∙ sym (number_in-alike m e.node s q) ∙ a.each number e at) in omega (arith, lt, low, k))
    stays s n lt h false q = updates s ∙ ap (λ b. cond b None (now s)) q ∙ t.stays s n lt h

    here : (s : Node) → is_eq (node_cmp e.node s) ≡ false → number_in m s ≡ Some number → ⊥
    here s q h =
        let o = a.told number s h in
        let same : o.0 ≡ e = same_Some o.0 e (sym o.1 ∙ at) in
        let w : true ≡ false = sym (subst (λ (x : Entry). AreAlike x.node s) same o.2) ∙ q in
        absurd (cc)

    lower : (s : Node) (n : ℕ) → is_eq (node_cmp e.node s) ≡ false → number_in m s ≡ Some n → (n < number → n < len) → n < number + 1 → n < len
    lower s n q h k lt = ⊎_elim (λ z. absurd (here s q (h ∙ ap Some z.1))) (λ z. k (omega (arith, lt, z.1))) (eqb_tells n number)

    told : (s : Node) (n : ℕ) → new s ≡ Some n → (b : Bool) → is_eq (node_cmp e.node s) ≡ b → (number_in m s ≡ Some n) × (n < number + 1 → n < len)
    told s n h true q = absurd (let w : None ≡ Some n = sym (updates s ∙ ap (λ b. cond b None (now s)) q) ∙ h in cc)
    told s n h false q =
        let o = t.told s n (sym (updates s ∙ ap (λ b. cond b None (now s)) q) ∙ h) in
        (o.0, lower s n q o.0 o.1)

pub Forgotten-all : (es : List Entry) (old now : Node → Option ℕ) (len number : ℕ) → AreNumbered es old → length es ≤ number → Forgotten old now len number
    → (s : Node) (n : ℕ) → now s ≡ Some n → (old s ≡ Some n) × (n < len)
Forgotten-all es old now len number a past t s n h =
    let o = t.told s n h in
    let e = a.told n s o.0 in
    let w = slice_get_within es n e.0 e.1 in
    (o.0, o.1 (omega (arith, w, past)))

-- entries whose last ones are given up
slice_get-take : {X : Type 0} (n : ℕ) (xs : List X) (i : ℕ) → i < n → slice_get (take n xs) i ≡ slice_get xs i
slice_get-take zero xs i h = absurd (omega (arith, h))
slice_get-take (suc n) [] i h = refl
slice_get-take (suc n) (x ∷ xs) zero h = refl
slice_get-take (suc n) (x ∷ xs) (suc i) h = slice_get-take n xs i (omega (arith, h))

pub AreNumbered-take : (n : ℕ) (es : List Entry) (old new : Node → Option ℕ) → AreNumbered es old
    → ((s : Node) (i : ℕ) → i < n → old s ≡ Some i → new s ≡ Some i) → ((s : Node) (i : ℕ) → new s ≡ Some i → (old s ≡ Some i) × (i < n))
    → AreNumbered (take n es) new
AreNumbered-take n es old new t stay go = record {
  each = λ i e at. let within : i < n = let k = slice_get_within (take n es) i e at in omega (arith, k, length-take n es) in stay e.node i within
      (t.each i e (sym (slice_get-take n es i within) ∙ at));
  told = λ i s h. let k = go s i h in let o = t.told i s k.0 in (o.0, slice_get-take n es i k.1 ∙ o.1, o.2);
}
