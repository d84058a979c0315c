-- One turn of the count of a term.
use Rattle.std.proofs.Common.{◌≡◌, ◌≢◌, ◌⊎◌, ⊎_elim, ℕ, suc, Bool, true, false, ◌+◌, ◌*◌, ◌<◌, ◌≤◌, ◌==◌, List, [], ◌∷◌, ◌++◌, length, Option, None, Some, refl, sym, ap, subst, ◌∙◌, arith, append_assoc}
use Rattle.std.specs.Prelude.{slice_index_or, unwrap_or}
use Rattle.std.specs.Option.{option_map}
use Rattle.std.proofs.lemmas.Bool.Decides.{nat_tests}
use Rattle.std.proofs.lemmas.List.{append-nil}
use Rattle.hol_spec.specs.Names.{Name}
use Rattle.hol_spec.specs.Types.{HolType}
use Rattle.hol_spec.specs.Limits.{type_size, term_size}
use Rattle.hol_spec.specs.Terms.{Term}
use Rattle.hol_spec.specs.TermBinding.{loose}
use Rattle.hol_term.specs.declared.TermId.{TermId}
use Rattle.article_count.specs.Noted.{IsNoted}
use Rattle.hol_type.specs.declared.table.TypeId.{TypeId}
use Rattle.hol_term.specs.Tables.{Trees, term_at, type_at}
use Rattle.article_spec.specs.declared.commands.Word.TheVariants as word
use Rattle.article_write_spec.specs.BinderNames.{binder_name}
use Rattle.article_write_spec.specs.Drafts.{Kept}
use Rattle.article_write_spec.specs.Lengths.{name_length, word_length, told_length, key_length, Tally, key_in, add, note, capped}
use Rattle.article_write_spec.specs.TermLengths.{count_type, count_variable, uses, binder_length, count_under, number_length, place_length, AreKept}
use Rattle.article_write_laws.specs.CountedOnce.{type-notes}
use Rattle.article_lines.specs.declared.keys.Thing.TheVariants as thing
use Rattle.article_count.specs.declared.memo.Memo.{Memo}
use Rattle.article_count.specs.declared.memo.Place.{Place}
use Rattle.article_count.specs.declared.tally.Count.{Count}
use Rattle.article_count.specs.declared.terms.TermTask.{TermTask}
use Rattle.article_count.specs.declared.terms.TermTask.TheVariants as task
use Rattle.article_count.specs.declared.terms.TermCount.{TermCount}
use Rattle.article_lines.specs.Greatest.{greatest_length}
use Rattle.article_lines.specs.Things.{thing_key}
use Rattle.article_count.specs.Counts.{added, noted, Counts, IsTally}
use Rattle.article_count.specs.LooseNumbers.{AreLoose}
use Rattle.article_count.specs.Used.{IsPlace, all_capped}
use Rattle.article_count.specs.TermTasks.{ArePlaces, IsTermTally, behind, note_if, term_made, ArePartsMade, left_over, IsFinishing, term_tasks, AreTermsReady, IsTermWalk, IsFinish, terms_work}
use Rattle.article_count.proofs.Tallies.{added-IsTally, key-IsTally, noted-IsTally, capped-twice, capped-three, capped-five, told-key, many-kept}
use Rattle.article_count.proofs.TermLaws.{closed-told, known-placed, type-no-term, free-new, constant-new, app-new, lam-new, app-IsFinishing, app-parts, lam-IsFinishing, ArePlaces-more, new-length, closed-place, app-open, lam-open, finished-closed, behind-kept}

-- Tallies with places
-- more is counted, and what is kept grows
pub grown-IsTermTally : {trees : Trees} {steps q : ℕ} {c : TermCount} {m : Tally} (d : TermCount) (l : Tally) (new : List Kept) → d.loose ≡ c.loose → d.number
    ≡ c.number → d.places ≡ c.places → IsTally trees steps d.count l → l.kept ≡ m.kept ++ new
    → IsTermTally trees steps q c m → IsTermTally trees steps q d l
grown-IsTermTally {trees = trees} {q = q} {c = c} {m = m} d l new loose_same number places tally more h = record {
  tally = tally;
  places = subst (λ (ps : Memo). ArePlaces trees q l.kept ps) (sym places)
      (subst (λ (ks : List Kept). ArePlaces trees q ks c.places) (sym more) (ArePlaces-more trees q m.kept new c.places h.places));
  loose = subst (λ v. AreLoose trees.terms v.items) (sym loose_same) h.loose;
  number = number ∙ h.number;
}

-- more is added alone
pub added-IsTermTally : {trees : Trees} {steps q : ℕ} {c : TermCount} {m : Tally} (d : TermCount) (n k : ℕ) → capped greatest_length n
    ≡ capped greatest_length k → d.loose ≡ c.loose → d.number ≡ c.number → d.places ≡ c.places → d.count ≡ added n c.count
    → IsTermTally trees steps q c m → IsTermTally trees steps q d (add k m)
added-IsTermTally {trees = trees} {steps = steps} {c = c} {m = m} d n k e loose_same number places count h =
    grown-IsTermTally d (add k m) [] loose_same number places (subst (λ x. IsTally trees steps x (add k m)) (sym count) (added-IsTally n k e h.tally))
    (sym (append-nil m.kept)) h

-- Turns
-- a place is counted
visited-IsTermWalk : {trees : Trees} {steps q : ℕ} {tasks : List TermTask} {c : TermCount} {lengths : List ℕ} {final : Tally} (d : TermCount) (p : Place)
    (n : ℕ) (more : List ℕ) (w : IsTermWalk trees steps q (task.Visit p ∷ tasks) c lengths final)
    → IsTermTally trees steps q d (count_under q p.depth (term_at trees p.id.0) w.now) → n
    ≡ capped greatest_length (place_length q (count_under q p.depth (term_at trees p.id.0) w.now).kept p.depth (term_at trees p.id.0)) → more ≡ n ∷ lengths
    → IsTermWalk trees steps q tasks d more final
visited-IsTermWalk {trees = trees} {q = q} d p n more w tally is pushed = record {
  now = count_under q p.depth (term_at trees p.id.0) w.now;
  tally = tally;
  numbers = place_length q (count_under q p.depth (term_at trees p.id.0) w.now).kept p.depth (term_at trees p.id.0) ∷ w.numbers;
  held = pushed ∙ ap (λ l. n ∷ l) w.held ∙ ap (λ k. k ∷ all_capped w.numbers) is;
  ready = w.ready.1;
  ends = w.ends;
}

-- the loose number that is told of a place
pub loose-told : (trees : Trees) (ns : List ℕ) (p : Place) → AreLoose trees.terms ns → IsPlace trees p → slice_index_or ns p.id.0 0 ≡ 0
    → loose (term_at trees p.id.0) ≡ 0
loose-told trees ns p h place e = let k = h.each p.id.0 place.0 in let l = k.least (omega (arith, e, place.1)) in omega (arith, l, e)

pub told-loose : (trees : Trees) (ns : List ℕ) (p : Place) → AreLoose trees.terms ns → IsPlace trees p → loose (term_at trees p.id.0) ≡ 0
    → slice_index_or ns p.id.0 0 ≡ 0
told-loose trees ns p h place e = let k = h.each p.id.0 place.0 in let l = k.most in omega (arith, l, e)

-- a place whose term has a key
keyed-IsTermWalk : {trees : Trees} {steps q : ℕ} {tasks : List TermTask} {c : TermCount} {lengths : List ℕ} {final : Tally} (d : TermCount) (p : Place) (n : ℕ)
    (more : List ℕ) → d ≡ record c { count = added n c.count } → more ≡ n ∷ lengths
    → loose (term_at trees p.id.0) ≡ 0 → Some n ≡ option_map told_length (thing_key c.count.keys (thing.Term p.id)) → n ≤ greatest_length
    → IsTermWalk trees steps q (task.Visit p ∷ tasks) c lengths final → IsTermWalk trees steps q tasks d more final
keyed-IsTermWalk {trees = trees} {steps = steps} {q = q} {c = c} d p n more is pushed closed key fits w =
    let k = told-key (thing_key c.count.keys (thing.Term p.id)) n key in
    let t = term_at trees p.id.0 in
    let at : key_in w.now.kept (Kept.term t) ≡ Some k.0 = sym (key-IsTally (thing.Term p.id) w.tally.tally w.ready.0.0) ∙ k.1 in
    let told = closed-told q t p.depth w.now k.0 closed at in
    let e : record c { count = added n c.count } ≡ record c { count = added (told_length k.0) c.count } = ap (λ i. record c { count = added i c.count }) k.2 in
    let tally = subst (λ x. IsTermTally trees steps q x (add (told_length k.0) w.now)) (sym (is ∙ e))
    (added-IsTermTally (record c { count = added (told_length k.0) c.count }) (told_length k.0) (told_length k.0) refl refl refl refl refl w.tally) in
    let small : n ≡ capped greatest_length n = omega (arith, fits) in
    visited-IsTermWalk d p n more w (subst (IsTermTally trees steps q d) (sym told.0) tally) (small ∙ ap (capped greatest_length) (k.2 ∙ sym told.1)) pushed

-- a place that was noted
noted-IsTermWalk : {trees : Trees} {steps q : ℕ} {tasks : List TermTask} {c : TermCount} {lengths : List ℕ} {final : Tally} (d : TermCount) (p : Place) (n : ℕ)
    (more : List ℕ) → d ≡ record c { count = added n c.count } → more ≡ n ∷ lengths
    → IsNoted c.places p n → IsTermWalk trees steps q (task.Visit p ∷ tasks) c lengths final → IsTermWalk trees steps q tasks d more final
noted-IsTermWalk {trees = trees} {steps = steps} {q = q} {c = c} d p n more is pushed at w =
    let t = term_at trees p.id.0 in
    let place = w.tally.places p n at in
    let told = known-placed q t p.depth w.now place.0 in
    let k = place_length q w.now.kept p.depth t in
    let same : capped greatest_length n ≡ capped greatest_length k = ap (capped greatest_length) place.1 ∙ capped-twice greatest_length k in
    let tally = subst (λ x. IsTermTally trees steps q x (add k w.now)) (sym is)
    (added-IsTermTally (record c { count = added n c.count }) n k same refl refl refl refl w.tally) in
    visited-IsTermWalk d p n more w (subst (IsTermTally trees steps q d) (sym told.0) tally) (place.1 ∙ ap (capped greatest_length) (sym told.1)) pushed

-- a variable or a constant that has no key gets one
leaf-IsTermWalk : {trees : Trees} {steps q : ℕ} {tasks : List TermTask} {c : TermCount} {lengths : List ℕ} {final : Tally} (d : TermCount) (e : Count)
    (p : Place) (n : ℕ) (more : List ℕ) (w : IsTermWalk trees steps q (task.Visit p ∷ tasks) c lengths final)
    (m : Tally) (new : List Kept) → m.kept ≡ w.now.kept ++ new → IsTally trees steps e m → d ≡ record c { count = noted (thing.Term p.id) e }
    → loose (term_at trees p.id.0) ≡ 0 → key_in m.kept (Kept.term (term_at trees p.id.0)) ≡ None
    → count_under q p.depth (term_at trees p.id.0) w.now ≡ note (Kept.term (term_at trees p.id.0)) m → n ≡ told_length (length e.keys.things)
    → n ≤ greatest_length → more ≡ n ∷ lengths → IsTermWalk trees steps q tasks d more final
leaf-IsTermWalk {trees = trees} {steps = steps} {q = q} {c = c} d e p n more w m new kept tally is closed none counted told fits pushed =
    let t = term_at trees p.id.0 in
    let all : (note (Kept.term t) m).kept ≡ w.now.kept ++ (new ++ Kept.term t ∷ []) =
    ap (λ l. l ++ Kept.term t ∷ []) kept ∙ append_assoc w.now.kept new (Kept.term t ∷ []) in
    let now = grown-IsTermTally (record c { count = noted (thing.Term p.id) e }) (note (Kept.term t) m) (new ++ Kept.term t ∷ []) refl refl refl
    (noted-IsTally (thing.Term p.id) w.ready.0.0 tally) all w.tally in
    let many : length e.keys.things ≡ length m.kept = many-kept tally in
    let place : place_length q (note (Kept.term t) m).kept p.depth t ≡ n =
    closed-place q (note (Kept.term t) m).kept p.depth t closed ∙ new-length m.kept t none ∙ ap told_length (sym many) ∙ sym told in
    let small : n ≡ capped greatest_length n = omega (arith, fits) in
    visited-IsTermWalk d p n more w
    (subst (IsTermTally trees steps q d) (sym counted) (subst (λ x. IsTermTally trees steps q x (note (Kept.term t) m)) (sym is) now))
    (small ∙ ap (capped greatest_length) (sym place ∙ ap (λ (l : Tally). place_length q l.kept p.depth t) (sym counted))) pushed

-- a bound number is counted as the variable of its binder
pub bound-IsTermWalk : {trees : Trees} {steps q : ℕ} {tasks : List TermTask} {c : TermCount} {lengths : List ℕ} {final : Tally} (d : TermCount) (p : Place)
    (k n : ℕ) (more : List ℕ) → term_at trees p.id.0 ≡ Term.bound k → n ≡ capped greatest_length (number_length c.number p.depth k)
    → d ≡ record c { count = added n c.count } → more ≡ n ∷ lengths → IsTermWalk trees steps q (task.Visit p ∷ tasks) c lengths final
    → IsTermWalk trees steps q tasks d more final
bound-IsTermWalk {trees = trees} {steps = steps} {q = q} {c = c} d p k n more t told is pushed w =
    let l = number_length q p.depth k in
    let same : n ≡ capped greatest_length l = told ∙ ap (λ r. capped greatest_length (number_length r p.depth k)) w.tally.number in
    let counted : count_under q p.depth (term_at trees p.id.0) w.now ≡ add l w.now = ap (λ x. count_under q p.depth x w.now) t in
    let tally = subst (λ x. IsTermTally trees steps q x (add l w.now)) (sym is)
    (added-IsTermTally (record c { count = added n c.count }) n l (ap (capped greatest_length) same ∙ capped-twice greatest_length l) refl refl refl refl
    w.tally) in
    let place : place_length q (count_under q p.depth (term_at trees p.id.0) w.now).kept p.depth (term_at trees p.id.0) ≡ l =
    ap (λ x. place_length q (count_under q p.depth (term_at trees p.id.0) w.now).kept p.depth x) t in
    visited-IsTermWalk d p n more w (subst (IsTermTally trees steps q d) (sym counted) tally) (same ∙ ap (capped greatest_length) (sym place)) pushed

-- the parts of an application come first
pub app-IsTermWalk : {trees : Trees} {steps q : ℕ} {tasks : List TermTask} {c : TermCount} {lengths : List ℕ} {final : Tally} (p : Place) (f x : TermId)
    → term_at trees p.id.0 ≡ Term.app (term_at trees f.0) (term_at trees x.0) → f.0 < p.id.0 → x.0 < p.id.0
    → (loose (term_at trees p.id.0) ≡ 0 → thing_key c.count.keys (thing.Term p.id) ≡ None) → IsTermWalk trees steps q (task.Visit p ∷ tasks) c lengths final
    → IsTermWalk trees steps q (task.Visit (record p { id = f }) ∷ task.Visit (record p { id = x }) ∷ task.Made p ∷ tasks) c lengths final
app-IsTermWalk {trees = trees} {q = q} {tasks = tasks} {c = c} p f x t one two none w =
    let u = term_at trees p.id.0 in
    let g = term_at trees f.0 in
    let y = term_at trees x.0 in
    let l1 = count_under q p.depth g w.now in
    let l2 = count_under q p.depth y l1 in
    let vs : List ℕ = place_length q l2.kept p.depth y ∷ place_length q l1.kept p.depth g ∷ w.numbers in
    let key : loose u ≡ 0 → key_in w.now.kept (Kept.term u) ≡ None = λ closed. sym (key-IsTally (thing.Term p.id) w.tally.tally w.ready.0.0) ∙ none closed in
    let free : loose (Term.app g y) ≡ 0 → key_in w.now.kept (Kept.term (Term.app g y)) ≡ None =
    subst (λ z. loose z ≡ 0 → key_in w.now.kept (Kept.term z) ≡ None) t key in
    let made : count_under q p.depth u w.now ≡ term_made u l2 =
    ap (λ z. count_under q p.depth z w.now) t ∙ app-new q p.depth g y w.now free ∙ ap (λ z. term_made z l2) (sym t) in
    let left : w.numbers ≡ left_over u vs = ap (λ z. left_over z vs) (sym t) in
    let rest = subst (λ (ns : List ℕ). AreTermsReady trees q tasks (term_made u l2) (place_length q (term_made u l2).kept p.depth u ∷ ns)) left
    (subst (λ (l : Tally). AreTermsReady trees q tasks l (place_length q l.kept p.depth u ∷ w.numbers)) made w.ready.1) in
    let here = w.ready.0 in
    record {
      now = w.now;
      tally = w.tally;
      numbers = w.numbers;
      held = w.held;
      ready = (
        (omega (arith, here.0, one), omega (arith, here.1, one)),
        (
          (omega (arith, here.0, two), omega (arith, here.1, two)),
          (
            here,
            subst (λ z. IsFinishing z l2) (sym t) (app-IsFinishing q p.depth g y w.now free),
            subst (λ z. ArePartsMade q p.depth z l2 vs) (sym t) (app-parts q p.depth g y w.now w.numbers),
            rest,
          ),
        ),
      );
      ends = ap (term_tasks trees q tasks) (sym made) ∙ w.ends;
    }

-- the variable of an abstraction is counted, and the body comes first
pub lam-IsTermWalk : {trees : Trees} {steps q : ℕ} {tasks : List TermTask} {c : TermCount} {lengths : List ℕ} {final : Tally} (d : TermCount) (e : Count)
    (p : Place) (a : HolType) (b : TermId)
    → term_at trees p.id.0 ≡ Term.lam a (term_at trees b.0) → b.0 < p.id.0
    → (loose (term_at trees p.id.0) ≡ 0 → thing_key c.count.keys (thing.Term p.id) ≡ None) → d ≡ record c { count = e }
    → ((m : Tally) → IsTally trees steps c.count m → IsTally trees steps e (count_variable (binder_name c.number p.depth) a m))
    → IsTermWalk trees steps q (task.Visit p ∷ tasks) c lengths final
    → IsTermWalk trees steps q (task.Visit (record { id = b; depth = p.depth + 1 }) ∷ task.Made p ∷ tasks) d lengths final
lam-IsTermWalk {trees = trees} {steps = steps} {q = q} {tasks = tasks} {c = c} d e p a b t one none is counts w =
    let u = term_at trees p.id.0 in
    let body = term_at trees b.0 in
    let l1 = count_variable (binder_name q p.depth) a w.now in
    let l2 = count_under q (suc p.depth) body l1 in
    let l3 = count_under q (p.depth + 1) body l1 in
    let next : suc p.depth ≡ p.depth + 1 = omega arith in
    let same : l2 ≡ l3 = ap (λ i. count_under q i body l1) next in
    let vs : List ℕ = place_length q l3.kept (p.depth + 1) body ∷ w.numbers in
    let key : loose u ≡ 0 → key_in w.now.kept (Kept.term u) ≡ None = λ closed. sym (key-IsTally (thing.Term p.id) w.tally.tally w.ready.0.0) ∙ none closed in
    let free : loose (Term.lam a body) ≡ 0 → key_in w.now.kept (Kept.term (Term.lam a body)) ≡ None =
    subst (λ z. loose z ≡ 0 → key_in w.now.kept (Kept.term z) ≡ None) t key in
    let made : count_under q p.depth u w.now ≡ term_made u l3 =
    ap (λ z. count_under q p.depth z w.now) t ∙ lam-new q p.depth a body w.now free ∙ ap (λ z. term_made z l2) (sym t) ∙ ap (term_made u) same in
    let left : w.numbers ≡ left_over u vs = ap (λ z. left_over z vs) (sym t) in
    let rest = subst (λ (ns : List ℕ). AreTermsReady trees q tasks (term_made u l3) (place_length q (term_made u l3).kept p.depth u ∷ ns)) left
    (subst (λ (l : Tally). AreTermsReady trees q tasks l (place_length q l.kept p.depth u ∷ w.numbers)) made w.ready.1) in
    let here = w.ready.0 in
    let finishing : IsFinishing (Term.lam a body) l3 = subst (IsFinishing (Term.lam a body)) same (lam-IsFinishing q p.depth a body w.now free) in
    let parts : ArePartsMade q p.depth (Term.lam a body) l3 vs = ap (λ i. place_length q l3.kept i body) (sym next) in
    let notes = type-notes a (add (name_length (binder_name q p.depth)) w.now) in
    let tally : IsTally trees steps e l1 = subst (λ r. IsTally trees steps e (count_variable (binder_name r p.depth) a w.now)) w.tally.number
    (counts w.now w.tally.tally) in
    let grown = grown-IsTermTally (record c { count = e }) l1 notes.new refl refl refl tally notes.is w.tally in
    record {
      now = l1;
      tally = subst (λ x. IsTermTally trees steps q x l1) (sym is) grown;
      numbers = w.numbers;
      held = w.held;
      ready = (
        (omega (arith, here.0, one), omega (arith, here.1, one)),
        (here, subst (λ z. IsFinishing z l3) (sym t) finishing, subst (λ z. ArePartsMade q p.depth z l3 vs) (sym t) parts, rest),
      );
      ends = ap (term_tasks trees q tasks) (sym made) ∙ w.ends;
    }

-- The parts are counted
-- the lengths of the parts are taken up
pub app-lengths : {trees : Trees} {steps q : ℕ} {tasks : List TermTask} {c : TermCount} {lengths : List ℕ} {final : Tally} (p : Place) (f x : Term)
    → term_at trees p.id.0 ≡ Term.app f x → IsTermWalk trees steps q (task.Made p ∷ tasks) c lengths final
    → (v : ℕ) × (w : ℕ) × (rest : List ℕ) × (lengths ≡ v ∷ w ∷ rest)
app-lengths {trees = trees} {q = q} {lengths = lengths} p f x t h = go h.numbers h.held (subst (λ z. ArePartsMade q p.depth z h.now h.numbers) t h.ready.2)
  where
    go : (ns : List ℕ) → lengths ≡ all_capped ns → ArePartsMade q p.depth (Term.app f x) h.now ns → (v : ℕ) × (w : ℕ) × (rest : List ℕ)
        × (lengths ≡ v ∷ w ∷ rest)
    go [] e k = absurd k
    go (v ∷ []) e k = absurd k
    go (v ∷ w ∷ ns) e k = (capped greatest_length v, capped greatest_length w, all_capped ns, e)

pub lam-lengths : {trees : Trees} {steps q : ℕ} {tasks : List TermTask} {c : TermCount} {lengths : List ℕ} {final : Tally} (p : Place) (a : HolType) (b : Term)
    → term_at trees p.id.0 ≡ Term.lam a b → IsTermWalk trees steps q (task.Made p ∷ tasks) c lengths final
    → (v : ℕ) × (rest : List ℕ) × (lengths ≡ v ∷ rest)
lam-lengths {trees = trees} {q = q} {lengths = lengths} p a b t h = go h.numbers h.held (subst (λ z. ArePartsMade q p.depth z h.now h.numbers) t h.ready.2)
  where
    go : (ns : List ℕ) → lengths ≡ all_capped ns → ArePartsMade q p.depth (Term.lam a b) h.now ns → (v : ℕ) × (rest : List ℕ) × (lengths ≡ v ∷ rest)
    go [] e k = absurd k
    go (v ∷ ns) e k = (capped greatest_length v, all_capped ns, e)

-- no other term has parts
pub leaf-made : {trees : Trees} {steps q : ℕ} {tasks : List TermTask} {c : TermCount} {lengths : List ℕ} {final : Tally} {P : Type 0} (p : Place) (u : Term)
    → term_at trees p.id.0 ≡ u → ((d : ℕ) (m : Tally) (vs : List ℕ) → ArePartsMade q d u m vs → ⊥)
    → IsTermWalk trees steps q (task.Made p ∷ tasks) c lengths final → P
leaf-made {q = q} p u t none h = absurd (none p.depth h.now h.numbers (subst (λ z. ArePartsMade q p.depth z h.now h.numbers) t h.ready.2))

pub app-IsFinish : {trees : Trees} {steps q : ℕ} {tasks : List TermTask} {c : TermCount} {lengths : List ℕ} {final : Tally} (d : TermCount) (p : Place)
    (f x : Term) (v w n : ℕ) (rest : List ℕ) → term_at trees p.id.0 ≡ Term.app f x → lengths ≡ v ∷ w ∷ rest
    → n ≡ capped greatest_length (capped greatest_length (w + v) + word_length word.AppTerm) → d ≡ record c { count = added (word_length word.AppTerm) c.count }
    → IsTermWalk trees steps q (task.Made p ∷ tasks) c lengths final → IsFinish trees steps q tasks p n d rest final
app-IsFinish {trees = trees} {steps = steps} {q = q} {tasks = tasks} {c = c} {lengths = lengths} {final = final} d p f x v w n rest t was adds is h =
    go h.numbers h.held (subst (λ z. ArePartsMade q p.depth z h.now h.numbers) t h.ready.2)
    (subst (λ z. AreTermsReady trees q tasks (term_made u h.now) (place_length q (term_made u h.now).kept p.depth u ∷ left_over z h.numbers)) t h.ready.3)
  where
    u : Term
    u = term_at trees p.id.0

    tally : IsTermTally trees steps q d (behind u h.now)
    tally = subst (λ z. IsTermTally trees steps q d (behind z h.now)) (sym t)
        (subst (λ y. IsTermTally trees steps q y (add (word_length word.AppTerm) h.now)) (sym is)
        (added-IsTermTally (record c { count = added (word_length word.AppTerm) c.count }) (word_length word.AppTerm) (word_length word.AppTerm) refl refl
        refl refl refl h.tally))

    sum : (i j k l : ℕ) → v ≡ capped greatest_length i → w ≡ capped greatest_length j → i ≡ k → j ≡ l → n
        ≡ capped greatest_length (l + k + word_length word.AppTerm)
    sum i j k l a b e g = adds ∙ ap (λ o. capped greatest_length (capped greatest_length o + word_length word.AppTerm))
        (let z : w + v ≡ capped greatest_length l + capped greatest_length k = omega (arith, a, b, e, g) in z)
        ∙ capped-three greatest_length l k (word_length word.AppTerm)

    go : (ns : List ℕ) → lengths ≡ all_capped ns → ArePartsMade q p.depth (Term.app f x) h.now ns
        → AreTermsReady trees q tasks (term_made u h.now) (place_length q (term_made u h.now).kept p.depth u ∷ left_over (Term.app f x) ns)
        → IsFinish trees steps q tasks p n d rest final
    go [] e k r = absurd k
    go (i ∷ []) e k r = absurd k
    go (i ∷ j ∷ ns) e k r =
        let a : v ≡ capped greatest_length i = (let z = sym was ∙ e in cc) in
        let b : w ≡ capped greatest_length j = (let z = sym was ∙ e in cc) in
        let l : rest ≡ all_capped ns = (let z = sym was ∙ e in cc) in
        record {
          before = h.now;
          tally = tally;
          place = h.ready.0;
          ready = h.ready.1;
          adds = λ open_one. sum i j (place_length q h.now.kept p.depth x) (place_length q h.now.kept p.depth f) a b k.0 k.1
              ∙ ap (capped greatest_length)
              (sym (ap (λ z. place_length q (term_made z h.now).kept p.depth z) t ∙ app-open q p.depth f x h.now (subst (λ z. loose z ≢ 0) t open_one)));
          numbers = ns;
          held = l;
          rest = r;
          ends = h.ends;
        }

pub lam-IsFinish : {trees : Trees} {steps q : ℕ} {tasks : List TermTask} {c : TermCount} {lengths : List ℕ} {final : Tally} (d : TermCount) (p : Place)
    (a : TypeId) (b : Term) (v more n : ℕ) (rest : List ℕ) → a.0 < length trees.types
    → term_at trees p.id.0 ≡ Term.lam (type_at trees a.0) b → lengths ≡ v ∷ rest → more
    ≡ capped greatest_length (uses 0 b * told_length (unwrap_or (thing_key c.count.keys (thing.Type a)) 0) + word_length word.AbsTerm)
    → n ≡ capped greatest_length
    (name_length (binder_name c.number p.depth) + told_length (unwrap_or (thing_key c.count.keys (thing.Type a)) 0) + word_length word.Var + v + more) → d
    ≡ record c { count = added more c.count }
    → IsTermWalk trees steps q (task.Made p ∷ tasks) c lengths final → IsFinish trees steps q tasks p n d rest final
lam-IsFinish {trees = trees} {steps = steps} {q = q} {tasks = tasks} {c = c} {lengths = lengths} {final = final} d p ty b v more n rest low t was behind_is adds
    is h =
    go h.numbers h.held (subst (λ z. ArePartsMade q p.depth z h.now h.numbers) t h.ready.2)
    (subst (λ z. AreTermsReady trees q tasks (term_made u h.now) (place_length q (term_made u h.now).kept p.depth u ∷ left_over z h.numbers)) t h.ready.3)
  where
    u : Term
    u = term_at trees p.id.0

    a : HolType
    a = type_at trees ty.0

    key : told_length (unwrap_or (thing_key c.count.keys (thing.Type ty)) 0) ≡ key_length h.now.kept (Kept.type a)
    key = ap (λ o. told_length (unwrap_or o 0)) (key-IsTally (thing.Type ty) h.tally.tally low)

    binder : more ≡ capped greatest_length (binder_length h.now.kept a b)
    binder = behind_is ∙ ap (λ k. capped greatest_length (uses 0 b * k + word_length word.AbsTerm)) key

    tally : IsTermTally trees steps q d (behind u h.now)
    tally = subst (λ z. IsTermTally trees steps q d (behind z h.now)) (sym t)
        (subst (λ y. IsTermTally trees steps q y (add (binder_length h.now.kept a b) h.now)) (sym is)
        (added-IsTermTally (record c { count = added more c.count }) more (binder_length h.now.kept a b)
        (ap (capped greatest_length) binder ∙ capped-twice greatest_length (binder_length h.now.kept a b)) refl refl refl refl h.tally))

    name : name_length (binder_name c.number p.depth) ≡ name_length (binder_name q p.depth)
    name = ap (λ r. name_length (binder_name r p.depth)) h.tally.number

    sum : (i k : ℕ) → v ≡ capped greatest_length i → i ≡ k → n
        ≡ capped greatest_length
        (name_length (binder_name q p.depth) + key_length h.now.kept (Kept.type a) + word_length word.Var + k + binder_length h.now.kept a b)
    sum i k e f = adds ∙ capped-five greatest_length (name_length (binder_name c.number p.depth))
        (told_length (unwrap_or (thing_key c.count.keys (thing.Type ty)) 0)) (word_length word.Var) v more (name_length (binder_name q p.depth))
        (key_length h.now.kept (Kept.type a)) k (binder_length h.now.kept a b) name key (e ∙ ap (capped greatest_length) f) binder

    go : (ns : List ℕ) → lengths ≡ all_capped ns → ArePartsMade q p.depth (Term.lam a b) h.now ns
        → AreTermsReady trees q tasks (term_made u h.now) (place_length q (term_made u h.now).kept p.depth u ∷ left_over (Term.lam a b) ns)
        → IsFinish trees steps q tasks p n d rest final
    go [] e k r = absurd k
    go (i ∷ ns) e k r =
        let head : v ≡ capped greatest_length i = (let z = sym was ∙ e in cc) in
        let tail : rest ≡ all_capped ns = (let z = sym was ∙ e in cc) in
        record {
          before = h.now;
          tally = tally;
          place = h.ready.0;
          ready = h.ready.1;
          adds = λ open_one. sum i (place_length q h.now.kept (suc p.depth) b) head k
              ∙ ap (capped greatest_length)
              (sym (ap (λ z. place_length q (term_made z h.now).kept p.depth z) t ∙ lam-open q p.depth a b h.now (subst (λ z. loose z ≢ 0) t open_one)));
          numbers = ns;
          held = tail;
          rest = r;
          ends = h.ends;
        }

-- A term is finished
-- it has no key yet
pub finish-key : {trees : Trees} {steps q : ℕ} {tasks : List TermTask} {c : TermCount} {lengths : List ℕ} {final : Tally} (p : Place) (n : ℕ)
    → slice_index_or c.loose.items p.id.0 0 ≡ 0 → IsFinish trees steps q tasks p n c lengths final → thing_key c.count.keys (thing.Term p.id) ≡ None
finish-key {trees = trees} {c = c} p n zero_told h =
    let u = term_at trees p.id.0 in
    let closed = loose-told trees c.loose.items p h.tally.loose h.place zero_told in
    key-IsTally (thing.Term p.id) h.tally.tally h.place.0 ∙ ap (λ (l : List Kept). key_in l (Kept.term u)) (behind-kept u h.before) ∙ h.ready.new closed

-- a term without loose numbers gets a key
pub closed-finished : {trees : Trees} {steps q : ℕ} {tasks : List TermTask} {c : TermCount} {lengths : List ℕ} {final : Tally} (d : TermCount) (p : Place)
    (n k : ℕ) (more : List ℕ) → slice_index_or c.loose.items p.id.0 0 ≡ 0
    → d ≡ record c { count = noted (thing.Term p.id) c.count } → k ≡ told_length (length c.count.keys.things) → k ≤ greatest_length → more ≡ k ∷ lengths
    → IsFinish trees steps q tasks p n c lengths final → IsTermWalk trees steps q tasks d more final
closed-finished {trees = trees} {steps = steps} {q = q} {c = c} d p n k more zero_told is told fits pushed h =
    let u = term_at trees p.id.0 in
    let closed = loose-told trees c.loose.items p h.tally.loose h.place zero_told in
    let on : (loose u == 0) ≡ true = grind (arith, nat_tests, closed) in
    let made : term_made u h.before ≡ note (Kept.term u) (behind u h.before) = ap (λ b. note_if b u (behind u h.before)) on in
    let now = grown-IsTermTally (record c { count = noted (thing.Term p.id) c.count }) (note (Kept.term u) (behind u h.before)) (Kept.term u ∷ []) refl refl
    refl (noted-IsTally (thing.Term p.id) h.place.0 h.tally.tally) refl h.tally in
    let many : length c.count.keys.things ≡ length h.before.kept = many-kept h.tally.tally ∙ ap (λ (l : List Kept). length l) (behind-kept u h.before) in
    let place : place_length q (term_made u h.before).kept p.depth u ≡ k =
    finished-closed q p.depth u h.before closed (h.ready.new closed) (behind-kept u h.before) ∙ ap told_length (sym many) ∙ sym told in
    let small : k ≡ capped greatest_length k = omega (arith, fits) in
    record {
      now = term_made u h.before;
      tally = subst (IsTermTally trees steps q d) (sym made) (subst (λ x. IsTermTally trees steps q x (note (Kept.term u) (behind u h.before))) (sym is) now);
      numbers = place_length q (term_made u h.before).kept p.depth u ∷ h.numbers;
      held = pushed ∙ ap (λ l. k ∷ l) h.held ∙ ap (λ i. i ∷ all_capped h.numbers) (small ∙ ap (capped greatest_length) (sym place));
      ready = h.rest;
      ends = h.ends;
    }

-- what any other adds is noted
pub open-finished : {trees : Trees} {steps q : ℕ} {tasks : List TermTask} {c : TermCount} {lengths : List ℕ} {final : Tally} (d : TermCount) (p : Place) (n : ℕ)
    (more : List ℕ) → slice_index_or c.loose.items p.id.0 0 ≢ 0
    → d.loose ≡ c.loose → d.number ≡ c.number → d.count ≡ c.count → ((r : Place) (i : ℕ) → IsNoted d.places r i → IsNoted c.places r i ⊎ ((r ≡ p) × (i ≡ n)))
    → more ≡ n ∷ lengths
    → IsFinish trees steps q tasks p n c lengths final → IsTermWalk trees steps q tasks d more final
open-finished {trees = trees} {steps = steps} {q = q} {c = c} d p n more some loose_same number count noted_more pushed h =
    let u = term_at trees p.id.0 in
    let open_one : loose u ≢ 0 = λ e. some (told-loose trees c.loose.items p h.tally.loose h.place e) in
    let off : (loose u == 0) ≡ false = grind (arith, nat_tests, open_one) in
    let made : term_made u h.before ≡ behind u h.before = ap (λ b. note_if b u (behind u h.before)) off in
    let adds = h.adds open_one in
    let kept : AreKept (behind u h.before).kept u = subst (λ (l : Tally). AreKept l.kept u) made h.ready.kept in
    let value : n ≡ capped greatest_length (place_length q (behind u h.before).kept p.depth u) =
    adds ∙ ap (λ (l : Tally). capped greatest_length (place_length q l.kept p.depth u)) made in
    let places : ArePlaces trees q (behind u h.before).kept d.places = λ r i at. ⊎_elim (h.tally.places r i)
    (λ s. subst (λ z. AreKept (behind u h.before).kept (term_at trees z.id.0)
    × (i ≡ capped greatest_length (place_length q (behind u h.before).kept z.depth (term_at trees z.id.0)))) (sym s.0) (kept, s.1 ∙ value))
    (noted_more r i at) in
    let now : IsTermTally trees steps q d (behind u h.before) = record {
      tally = subst (λ x. IsTally trees steps x (behind u h.before)) (sym count) h.tally.tally;
      places = places;
      loose = subst (λ x. AreLoose trees.terms x.items) (sym loose_same) h.tally.loose;
      number = number ∙ h.tally.number;
    } in
    record {
      now = term_made u h.before;
      tally = subst (IsTermTally trees steps q d) (sym made) now;
      numbers = place_length q (term_made u h.before).kept p.depth u ∷ h.numbers;
      held = pushed ∙ ap (λ l. n ∷ l) h.held ∙ ap (λ i. i ∷ all_capped h.numbers) adds;
      ready = h.rest;
      ends = h.ends;
    }

-- Work
pub visit-term-less : (trees : Trees) (p : Place) (tasks : List TermTask) → terms_work trees tasks < terms_work trees (task.Visit p ∷ tasks)
visit-term-less trees p tasks = let k = positive (term_at trees p.id.0) in omega (arith, k)
  where
    positive : (t : Term) → 1 ≤ term_size t
    positive (Term.free n a) = omega arith
    positive (Term.bound k) = omega arith
    positive (Term.constant n a) = omega arith
    positive (Term.app f x) = omega arith
    positive (Term.lam a b) = omega arith

pub app-term-less : (trees : Trees) (p : Place) (f x : TermId) (tasks : List TermTask) → term_at trees p.id.0 ≡ Term.app (term_at trees f.0) (term_at trees x.0)
    → terms_work trees (task.Visit (record p { id = f }) ∷ task.Visit (record p { id = x }) ∷ task.Made p ∷ tasks) < terms_work trees (task.Visit p ∷ tasks)
app-term-less trees p f x tasks t = let s : term_size (term_at trees p.id.0) ≡ 1 + term_size (term_at trees f.0) + term_size (term_at trees x.0) =
    ap term_size t in omega (arith, s)

pub lam-term-less : (trees : Trees) (p : Place) (a : HolType) (b : TermId) (d : ℕ) (tasks : List TermTask) → term_at trees p.id.0
    ≡ Term.lam a (term_at trees b.0)
    → terms_work trees (task.Visit (record { id = b; depth = d }) ∷ task.Made p ∷ tasks) < terms_work trees (task.Visit p ∷ tasks)
lam-term-less trees p a b d tasks t =
    let s : term_size (term_at trees p.id.0) ≡ 1 + type_size a + term_size (term_at trees b.0) = ap term_size t in
    let k = positive a in
    omega (arith, s, k)
  where
    positive : (x : HolType) → 1 ≤ type_size x
    positive (HolType.variable n) = omega arith
    positive (HolType.operator n ts) = omega arith

-- A place that is known, or not
pub known-IsTermWalk : {trees : Trees} {steps q : ℕ} {tasks : List TermTask} {c : TermCount} {lengths : List ℕ} {final : Tally} (d : TermCount) (p : Place)
    (n : ℕ) (more : List ℕ) → d ≡ record c { count = added n c.count } → more ≡ n ∷ lengths
    → (slice_index_or c.loose.items p.id.0 0 ≡ 0 → Some n ≡ option_map told_length (thing_key c.count.keys (thing.Term p.id)))
    → (slice_index_or c.loose.items p.id.0 0 ≢ 0 → IsNoted c.places p n) → n ≤ greatest_length
    → IsTermWalk trees steps q (task.Visit p ∷ tasks) c lengths final → IsTermWalk trees steps q tasks d more final
known-IsTermWalk {trees = trees} {steps = steps} {q = q} {tasks = tasks} {c = c} {final = final} d p n more is pushed closed noted_one fits w =
    go (slice_index_or c.loose.items p.id.0 0 == 0) refl
  where
    go : (b : Bool) → (slice_index_or c.loose.items p.id.0 0 == 0) ≡ b → IsTermWalk trees steps q tasks d more final
    go true e =
        let zero_told : slice_index_or c.loose.items p.id.0 0 ≡ 0 = grind (arith, nat_tests, e) in
        keyed-IsTermWalk d p n more is pushed (loose-told trees c.loose.items p w.tally.loose w.ready.0 zero_told) (closed zero_told) fits w
    go false e = noted-IsTermWalk d p n more is pushed (noted_one (let some : slice_index_or c.loose.items p.id.0 0 ≢ 0 = grind (arith, nat_tests, e) in some))
        w

told-None : (o : Option ℕ) → None ≡ option_map told_length o → o ≡ None
told-None None e = refl
told-None (Some k) e = absurd (cc)

pub unknown-key : {trees : Trees} {steps q : ℕ} {tasks : List TermTask} {c : TermCount} {lengths : List ℕ} {final : Tally} (p : Place)
    → (slice_index_or c.loose.items p.id.0 0 ≡ 0 → None ≡ option_map told_length (thing_key c.count.keys (thing.Term p.id)))
    → IsTermWalk trees steps q (task.Visit p ∷ tasks) c lengths final → loose (term_at trees p.id.0) ≡ 0 → thing_key c.count.keys (thing.Term p.id) ≡ None
unknown-key {trees = trees} {c = c} p closed w e =
    told-None (thing_key c.count.keys (thing.Term p.id)) (closed (told-loose trees c.loose.items p w.tally.loose w.ready.0 e))

-- Variables and constants
-- f counts what stands before the key of a term that has no parts
pub record IsLeaf (q d : ℕ) (t : Term) (f : Tally → Tally) : Type 0 where
  pub closed : loose t ≡ 0
  pub new : Tally → List Kept
  pub grows : (m : Tally) → (f m).kept ≡ m.kept ++ new m
  pub none : (m : Tally) → key_in m.kept (Kept.term t) ≡ None → key_in (f m).kept (Kept.term t) ≡ None
  pub counts : (m : Tally) → key_in m.kept (Kept.term t) ≡ None → count_under q d t m ≡ note (Kept.term t) (f m)

pub free-IsLeaf : (q d : ℕ) (t : Term) (n : Name) (a : HolType) → t ≡ Term.free n a → IsLeaf q d t (λ m. add (word_length word.VarTerm) (count_variable n a m))
free-IsLeaf q d t n a e = subst (λ z. IsLeaf q d z (λ m. add (word_length word.VarTerm) (count_variable n a m))) (sym e) (record {
  closed = refl;
  new = λ m. (type-notes a (add (name_length n) m)).new;
  grows = λ m. (type-notes a (add (name_length n) m)).is;
  none = λ m h. type-no-term (Term.free n a) a (add (name_length n) m) h;
  counts = free-new q d n a;
})

pub constant-IsLeaf : (q d : ℕ) (t : Term) (n : Name) (a : HolType) → t ≡ Term.constant n a
    → IsLeaf q d t (λ m. add (word_length word.ConstTerm) (count_type a (add (name_length n + word_length word.Const) m)))
constant-IsLeaf q d t n a e = subst (λ z. IsLeaf q d z (λ m. add (word_length word.ConstTerm) (count_type a (add (name_length n + word_length word.Const) m))))
    (sym e) (record {
      closed = refl;
      new = λ m. (type-notes a (add (name_length n + word_length word.Const) m)).new;
      grows = λ m. (type-notes a (add (name_length n + word_length word.Const) m)).is;
      none = λ m h. type-no-term (Term.constant n a) a (add (name_length n + word_length word.Const) m) h;
      counts = constant-new q d n a;
    })

leaf-none : {trees : Trees} {steps q : ℕ} {tasks : List TermTask} {c : TermCount} {lengths : List ℕ} {final : Tally} (p : Place) → loose (term_at trees p.id.0)
    ≡ 0 → (loose (term_at trees p.id.0) ≡ 0 → thing_key c.count.keys (thing.Term p.id) ≡ None)
    → (w : IsTermWalk trees steps q (task.Visit p ∷ tasks) c lengths final) → key_in w.now.kept (Kept.term (term_at trees p.id.0)) ≡ None
leaf-none p closed none w = sym (key-IsTally (thing.Term p.id) w.tally.tally w.ready.0.0) ∙ none closed

pub leaf-key : {trees : Trees} {steps q : ℕ} {tasks : List TermTask} {c : TermCount} {lengths : List ℕ} {final : Tally} (e : Count) (p : Place)
    (f : Tally → Tally) → IsLeaf q p.depth (term_at trees p.id.0) f
    → (loose (term_at trees p.id.0) ≡ 0 → thing_key c.count.keys (thing.Term p.id) ≡ None) → Counts trees c.count e f
    → IsTermWalk trees steps q (task.Visit p ∷ tasks) c lengths final → thing_key e.keys (thing.Term p.id) ≡ None
leaf-key {steps = steps} e p f leaf none counts w =
    key-IsTally (thing.Term p.id) (counts steps w.now w.tally.tally) w.ready.0.0 ∙ leaf.none w.now (leaf-none p leaf.closed none w)

pub counted-leaf : {trees : Trees} {steps q : ℕ} {tasks : List TermTask} {c : TermCount} {lengths : List ℕ} {final : Tally} (d : TermCount) (e : Count)
    (p : Place) (n : ℕ) (more : List ℕ) (f : Tally → Tally) → IsLeaf q p.depth (term_at trees p.id.0) f
    → (loose (term_at trees p.id.0) ≡ 0 → thing_key c.count.keys (thing.Term p.id) ≡ None) → Counts trees c.count e f → d
    ≡ record c { count = noted (thing.Term p.id) e } → n ≡ told_length (length e.keys.things) → n ≤ greatest_length → more ≡ n ∷ lengths
    → IsTermWalk trees steps q (task.Visit p ∷ tasks) c lengths final → IsTermWalk trees steps q tasks d more final
counted-leaf {steps = steps} d e p n more f leaf none counts is told fits pushed w =
    let empty = leaf-none p leaf.closed none w in
    leaf-IsTermWalk d e p n more w (f w.now) (leaf.new w.now) (leaf.grows w.now) (counts steps w.now w.tally.tally) is leaf.closed (leaf.none w.now empty)
    (leaf.counts w.now empty) told fits pushed
