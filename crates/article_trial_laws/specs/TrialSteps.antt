-- What the machine does with the commands of an article, and what stays known of the steps that were made.
use Rattle.hol_spec.specs.declared.Version.TheVariants.{Six}
use Rattle.std.proofs.Common.{◌≡◌, ℕ, zero, suc, ◌+◌, pos, true, false, cond, List, [], ◌∷◌, ◌++◌, map, length, Option, Some, slice_get, sym, ap, subst, ◌∙◌, Result, Ok, Err}
use Rattle.std.specs.Prelude.{slice_index_or}
use Rattle.std.specs.Ordering.{int_cmp, eq_by_cmp}
use Rattle.std.specs.FinMap as entries
use Rattle.std.specs.FinMap.{FinMap, get-insert}
use Rattle.std.specs.Cmp.{int_cmp_total}
use Rattle.std.proofs.lemmas.List.{length-map}
use Rattle.std.specs.Option.{ok_or}
use Rattle.common.specs.declared.faults.Kind.{Kind}
use Rattle.common.specs.declared.faults.Kind.TheVariants.{NoSuchKey}
use Rattle.hol_spec.specs.Sequents.{Sequent}
use Rattle.hol_spec.specs.Symbols.{Symbol}
use Rattle.hol_spec.specs.Proofs.{Made, Step, sequent_at, sequents_of, steps_of, symbols_of}
use Rattle.hol_proof_laws.specs.ProofLaws.{symbols_of-push, symbols_of-symbols}
use Rattle.hol_proof_laws.specs.ProofGrowth.{sequents_of-append}
use Rattle.article_spec.specs.declared.commands.Item.{Item}
use Rattle.article_spec.specs.declared.commands.Item.TheVariants as item
use Rattle.article_spec.specs.declared.commands.Word.{Word}
use Rattle.article_spec.specs.declared.commands.Word.TheVariants as word
use Rattle.article_spec.specs.State.{Object, theorem, body, State}
use Rattle.article_spec.specs.Results.{◌>>=◌}
use Rattle.article_spec.specs.Changes.{with_theorem}
use Rattle.article_spec.specs.Step.{obey, step_at}
use Rattle.article_spec.specs.Run.{machine, at_line, obey_all}
use Rattle.article_trial_laws.specs.TrialLines.{numbered}
use Rattle.hol_laws.specs.PlaceLaws.{slice_get-append, slice_get-last}

-- the state that commands lead to
abbrev pub obeyed : State → List Item → Result State Kind
obeyed s [] = Ok s
obeyed s (i ∷ is) = do
  next ← step_at s.place s i
  obeyed next is

-- commands, and then more
pub obeyed-then : (xs ys : List Item) (s t : State) (r : Result State Kind) → obeyed s xs ≡ Ok t → obeyed t ys ≡ r → obeyed s (xs ++ ys) ≡ r
obeyed-then [] ys s t r g h = let same : s ≡ t = cc in subst (λ u. obeyed u ys ≡ r) (sym same) h
obeyed-then (x ∷ xs) ys s t r g h = go (step_at s.place s x) (λ next e. obeyed-then xs ys next t r e h) g
  where
    go : (first : Result State Kind) → ((next : State) → obeyed next xs ≡ Ok t → obeyed next (xs ++ ys) ≡ r) → (first >>= (λ next. obeyed next xs)) ≡ Ok t
        → (first >>= (λ next. obeyed next (xs ++ ys))) ≡ r
    go (Ok next) again e = again next e
    go (Err k) again e = absurd (cc)

-- so do the commands in their lines
pub obey_all-numbered : (items : List Item) (n : ℕ) (s t : State) → obeyed s items ≡ Ok t → obey_all machine s (numbered n items) ≡ Ok t
obey_all-numbered [] n s t e = let same : s ≡ t = cc in ap Ok same
obey_all-numbered (i ∷ is) n s t e = go (step_at s.place s i) (λ next. obey_all-numbered is (n + 1) next t) e
  where
    go : (first : Result State Kind) → ((next : State) → obeyed next is ≡ Ok t → obey_all machine next (numbered (n + 1) is) ≡ Ok t)
        → (first >>= (λ next. obeyed next is)) ≡ Ok t
        → (at_line n first >>= (λ next. obey_all machine next (numbered (n + 1) is))) ≡ Ok t
    go (Ok next) again g = again next g
    go (Err k) again g = absurd (cc)

abbrev pub Dictionary : Type 0
Dictionary = FinMap int_cmp Object

-- the state in the body of the article, before its export
abbrev pub state : Dictionary → List Made → List Object → State
state d made stack = record { stack = stack; dictionary = d; place = body Six; made = made; assumptions = []; exports = []; pool = [] }

-- the dictionary has this object at a number
abbrev pub Has : Dictionary → ℕ → Object → Type 0
Has d k x = entries.get d (pos k) ≡ Some x

pub Has-own : (d : Dictionary) (k : ℕ) (x : Object) → eq_by_cmp int_cmp (pos k) (pos k) ≡ true → Has (entries.insert d (pos k) x) k x
Has-own d k x e = get-insert int_cmp_total d (pos k) x (pos k) ∙ ap (λ b. cond b (Some x) (entries.get d (pos k))) e

pub Has-other : (d : Dictionary) (k : ℕ) (x : Object) (j : ℕ) (y : Object) → eq_by_cmp int_cmp (pos j) (pos k) ≡ false → Has d j y
    → Has (entries.insert d (pos k) x) j y
Has-other d k x j y e h = get-insert int_cmp_total d (pos k) x (pos j) ∙ ap (λ b. cond b (Some x) (entries.get d (pos j))) e ∙ h

-- a reference gives the object, and the commands go on; so they do behind a word
pub refers : (k : ℕ) (y : Object) (d : Dictionary) (made : List Made) (stack : List Object) (is : List Item) → Has d k y
    → obeyed (state d made stack) (item.Number (pos k) ∷ item.Word word.Ref ∷ is) ≡ obeyed (state d made (y ∷ stack)) is
refers k y d made stack is h = ap (λ (o : Option Object). (ok_or o NoSuchKey >>= (λ z. Ok (state d made (z ∷ stack)))) >>= (λ next. obeyed next is)) h

pub follows_word : (w : Word) (d : Dictionary) (made : List Made) (stack : List Object) (t : State) (is : List Item) → obey (state d made stack) w ≡ Ok t
    → obeyed (state d made stack) (item.Word w ∷ is) ≡ obeyed t is
follows_word w d made stack t is h = ap (λ (r : Result State Kind). r >>= (λ next. obeyed next is)) h

-- the step of this number says this
abbrev pub IsAt : List Made → ℕ → Sequent → Type 0
IsAt made k s = slice_get (sequents_of made) k ≡ Some s

get-index : {A : Type 0} (xs : List A) (i : ℕ) (d x : A) → slice_get xs i ≡ Some x → slice_index_or xs i d ≡ x
get-index [] i d x e = absurd (cc)
get-index (y ∷ xs) zero d x e = cc
get-index (y ∷ xs) (suc i) d x e = get-index xs i d x e

pub sequent_at-is : (made : List Made) (k : ℕ) (s : Sequent) → IsAt made k s → sequent_at made k ≡ s
sequent_at-is made k s h = get-index (sequents_of made) k _ s h

pub IsAt-more : (made more : List Made) (k : ℕ) (s : Sequent) → IsAt made k s → IsAt (made ++ more) k s
IsAt-more made more k s h = ap (λ l. slice_get l k) (sequents_of-append made more) ∙ slice_get-append (sequents_of made) (sequents_of more) k s h

pub IsAt-new : (made : List Made) (x : Step) → IsAt (made ++ Made.step x ∷ []) (length (steps_of made)) x.sequent
IsAt-new made x =
    ap (λ l. slice_get l (length (steps_of made))) (sequents_of-append made (Made.step x ∷ []))
    ∙ ap (λ k. slice_get (sequents_of made ++ x.sequent ∷ []) k) (sym (length-map (steps_of made) (λ (y : Step). y.sequent)))
    ∙ slice_get-last (sequents_of made) x.sequent

-- commands lead to one theorem more on this stack, which says this; these symbols are then taken, and the earlier steps say what they said
pub record Concludes (d : Dictionary) (made : List Made) (stack : List Object) (items : List Item) (rest : List Object) (symbols : List Symbol)
    (s : Sequent) : Type 0 where
  pub after : List Made
  pub number : ℕ
  pub leads : obeyed (state d made stack) items ≡ Ok (state d after (theorem number ∷ rest))
  pub says : IsAt after number s
  pub taken : symbols_of after ≡ symbols
  pub keeps : (k : ℕ) (t : Sequent) → IsAt made k t → IsAt after k t

-- a step by which nothing is taken
pub inferred : (d : Dictionary) (made : List Made) (stack : List Object) (items : List Item) (rest : List Object) (x : Step)
    → obeyed (state d made stack) items ≡ Ok (with_theorem (state d made rest) x) → Concludes d made stack items rest (symbols_of made) x.sequent
inferred d made stack items rest x e = record {
  after = made ++ Made.step x ∷ [];
  number = length (steps_of made);
  leads = e;
  says = IsAt-new made x;
  taken = symbols_of-push made x;
  keeps = IsAt-more made (Made.step x ∷ []);
}

-- a step by which symbols are taken
pub defining : (d : Dictionary) (made : List Made) (stack : List Object) (items : List Item) (rest : List Object) (symbols : List Symbol) (x : Step)
    → obeyed (state d made stack) items ≡ Ok (with_theorem (state d (made ++ map Made.symbol symbols) rest) x)
    → Concludes d made stack items rest (symbols_of made ++ symbols) x.sequent
defining d made stack items rest symbols x e =
    let grown = made ++ map Made.symbol symbols in
    record {
      after = grown ++ Made.step x ∷ [];
      number = length (steps_of grown);
      leads = e;
      says = IsAt-new grown x;
      taken = symbols_of-push grown x ∙ symbols_of-symbols made symbols;
      keeps = λ k t h. IsAt-more grown (Made.step x ∷ []) k t (IsAt-more made (map Made.symbol symbols) k t h);
    }

-- one theorem more, and then another from there
pub concludes_then : {d : Dictionary} {made : List Made} {stack : List Object} {is js : List Item} {rest last : List Object} {symbols : List Symbol}
    {s t : Sequent}
    → (one : Concludes d made stack is rest symbols s) → Concludes d one.after (theorem one.number ∷ rest) js last (symbols_of one.after) t
    → Concludes d made stack (is ++ js) last symbols t
concludes_then {d = d} {made = made} {stack = stack} {is = is} {js = js} {rest = rest} {last = last} one two = record {
  after = two.after;
  number = two.number;
  leads = obeyed-then is js (state d made stack) (state d one.after (theorem one.number ∷ rest)) (Ok (state d two.after (theorem two.number ∷ last))) one.leads
      two.leads;
  says = two.says;
  taken = two.taken ∙ one.taken;
  keeps = λ k u h. two.keeps k u (one.keeps k u h);
}
