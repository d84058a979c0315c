-- What is known of an article that is half written: obeying its commands leads to a state, and its keys stand there for what they are to stand for.
use Rattle.std.proofs.Common.{◌≡◌, ◌≢◌, ℕ, suc, ◌+◌, ◌<◌, Bool, true, false, cond, pos, List, [], ◌∷◌, ◌++◌, map, length, Option, None, Some, slice_get, Ok, refl, sym, ap, subst, ◌∙◌, arith, append_assoc, inl, inr, Less, Greater, Equal}
use Rattle.std.specs.Prelude.{nat_lt}
use Rattle.std.specs.Option.{ok_or}
use Rattle.std.proofs.lemmas.Option.{slice_get_within}
use Rattle.std.specs.Ordering.{is_eq, int_cmp, eq_by_cmp}
use Rattle.common.specs.declared.faults.Kind.TheVariants.{NoSuchKey}
use Rattle.std.specs.FinMap as entries
use Rattle.std.specs.FinMap.{get-insert}
use Rattle.std.specs.Cmp.{int_cmp_total}
use Rattle.std.specs.List.{position_from, AllByRecursion}
use Rattle.std.proofs.lemmas.List.{map-append}
use Rattle.std.proofs.lemmas.Bool.Decides.{nat_tests}
use Rattle.hol_spec.specs.declared.Version.{Version}
use Rattle.hol_spec.specs.Symbols.{Symbol}
use Rattle.hol_spec.specs.Proofs.{Made, symbols_of}
use Rattle.hol_laws.specs.TypeLaws.{type_eq-Decides}
use Rattle.hol_laws.specs.TermLaws.{term_eq-Decides}
use Rattle.hol_laws.specs.Members.{All-append}
use Rattle.hol_laws.specs.PlaceLaws.{slice_get-one_more}
use Rattle.hol_proof_laws.specs.ProofLaws.{symbols_of-symbols}
use Rattle.article_spec.specs.declared.commands.Item.{Item}
use Rattle.article_spec.specs.declared.commands.Item.TheVariants as item
use Rattle.article_spec.specs.declared.commands.Word.TheVariants as word
use Rattle.article_spec.specs.State.{Object, State, initial, body}
use Rattle.article_spec.specs.Results.{◌>>=◌}
use Rattle.article_spec.specs.Step.{in_body, step_at}
use Rattle.article_trial_laws.specs.TrialSteps.{Dictionary, obeyed, obeyed-then}
use Rattle.article_write_spec.specs.Drafts.{Kept, kept_eq, Draft, key_of, say, say_word, keep, refer, once_at, once}
use Rattle.article_write_spec.specs.Article.{version_items}
use Rattle.article_write_laws.specs.SymbolUses.{IsInput, AreAmong, nil-append}

-- Where something is written: the version of the article, the numbers that the run's steps have in the article, the run's symbols, and what the article assumed and exported so far.
pub record Scene : Type 0 where
  pub version : Version
  pub number : ℕ → ℕ
  pub symbols : List Symbol
  pub assumptions : List ℕ
  pub exports : List ℕ

abbrev pub body_state : Scene → Dictionary → List Made → List Object → State
body_state c d made stack = record
    { stack = stack; dictionary = d; place = body c.version; made = made; assumptions = c.assumptions; exports = c.exports; pool = [] }

-- commands lead to a state: what says the version, and behind it commands that the body of the article obeys
pub record Leads (version : Version) (commands : List Item) (s : State) : Type 0 where
  pub rest : List Item
  pub is : commands ≡ version_items version ++ rest
  pub obeys : obeyed (in_body version initial) rest ≡ Ok s

-- what a key stands for
abbrev pub object_of : Scene → Kept → Object
object_of c (Kept.type a) = Object.type a
object_of c (Kept.term t) = Object.term t
object_of c (Kept.theorem i) = Object.theorem (c.number i)

pub record Holds (c : Scene) (kept : List Kept) (d : Dictionary) : Type 0 where
  pub at : (k : ℕ) (x : Kept) → slice_get kept k ≡ Some x → entries.get d (pos k) ≡ Some (object_of c x)

-- the commands so far lead to these things made and this stack
pub record Ready (c : Scene) (d : Draft) (made : List Made) (stack : List Object) : Type 0 where
  pub dictionary : Dictionary
  pub leads : Leads c.version d.commands (body_state c dictionary made stack)
  pub holds : Holds c d.kept dictionary
  pub among : AreAmong c.symbols (symbols_of made)

-- what was written on what was made leads to this stack; nothing but inputs was made, and the keys have what they had
pub record Wrote (c : Scene) (kept : List Kept) (made : List Made) (after : Draft) (stack : List Object) : Type 0 where
  pub more : List Symbol
  pub inputs : AllByRecursion IsInput more
  pub ready : Ready c after (made ++ map Made.symbol more) stack
  pub new : List Kept
  pub front : after.kept ≡ kept ++ new

-- One command
pub leads-one : (version : Version) (items : List Item) (i : Item) (s t : State) → Leads version items s → step_at s.place s i ≡ Ok t
    → Leads version (items ++ i ∷ []) t
leads-one version items i s t h f = record {
  rest = h.rest ++ i ∷ [];
  is = ap (λ l. l ++ i ∷ []) h.is ∙ append_assoc (version_items version) h.rest (i ∷ []);
  obeys = obeyed-then h.rest (i ∷ []) (in_body version initial) s (Ok t) h.obeys (ap (λ r. r >>= (λ next. obeyed next [])) f);
}

pub ready-said : {c : Scene} {d : Draft} {made after : List Made} {stack next : List Object} (r : Ready c d made stack) (i : Item)
    → step_at (body c.version) (body_state c r.dictionary made stack) i ≡ Ok (body_state c r.dictionary after next) → AreAmong c.symbols (symbols_of after)
    → Ready c (say i d) after next
ready-said {c = c} {d = d} {made = made} {after = after} {stack = stack} {next = next} r i e among = record {
  dictionary = r.dictionary;
  leads = leads-one c.version d.commands i (body_state c r.dictionary made stack) (body_state c r.dictionary after next) r.leads e;
  holds = r.holds;
  among = among;
}

pub wrote-none : {c : Scene} {d : Draft} {made : List Made} {stack : List Object} → Ready c d made stack → Wrote c d.kept made d stack
wrote-none {c = c} {d = d} {made = made} {stack = stack} r = record {
  more = [];
  inputs = tt {0};
  ready = subst (λ m. Ready c d m stack) (sym (nil-append made)) r;
  new = [];
  front = sym (nil-append d.kept);
}

-- in a row
pub wrote-then : {c : Scene} {kept : List Kept} {made : List Made} {one two : Draft} {stack next : List Object} → Wrote c kept made one stack
    → ((m : List Made) → Ready c one m stack → Wrote c one.kept m two next) → Wrote c kept made two next
wrote-then {c = c} {kept = kept} {made = made} {one = one} {two = two} {stack = stack} {next = next} w f =
    let v = f (made ++ map Made.symbol w.more) w.ready in
    record {
      more = w.more ++ v.more;
      inputs = All-append IsInput w.more v.more w.inputs v.inputs;
      ready = subst (λ m. Ready c two m next) (append_assoc made (map Made.symbol w.more) (map Made.symbol v.more)
          ∙ ap (λ l. made ++ l) (sym (map-append Made.symbol w.more v.more))) v.ready;
      new = w.new ++ v.new;
      front = v.front ∙ ap (λ l. l ++ v.new) w.front ∙ append_assoc kept w.new v.new;
    }

-- a command by which nothing is made
pub wrote-said : {c : Scene} {kept : List Kept} {made : List Made} {d : Draft} {stack next : List Object} (i : Item) → Wrote c kept made d stack
    → ((m : List Made) (e : Dictionary) → step_at (body c.version) (body_state c e m stack) i ≡ Ok (body_state c e m next)) → Wrote c kept made (say i d) next
wrote-said {made = made} i w f = record {
  more = w.more;
  inputs = w.inputs;
  ready = ready-said w.ready i (f (made ++ map Made.symbol w.more) w.ready.dictionary) w.ready.among;
  new = w.new;
  front = w.front;
}

-- a command by which inputs are made
pub wrote-taking : {c : Scene} {d : Draft} {made : List Made} {stack next : List Object} (i : Item) (r : Ready c d made stack) (more : List Symbol)
    → step_at (body c.version) (body_state c r.dictionary made stack) i ≡ Ok (body_state c r.dictionary (made ++ map Made.symbol more) next)
    → AllByRecursion IsInput more
    → AreAmong c.symbols (symbols_of made ++ more) → Wrote c d.kept made (say i d) next
wrote-taking {c = c} {d = d} {made = made} i r more e inputs among = record {
  more = more;
  inputs = inputs;
  ready = ready-said r i e (subst (AreAmong c.symbols) (sym (symbols_of-symbols made more)) among);
  new = [];
  front = sym (nil-append d.kept);
}

-- Keys
kept-same : (x y : Kept) → kept_eq x y ≡ true → x ≡ y
kept-same (Kept.type a) (Kept.type b) e = ap Kept.type ((type_eq-Decides a b).0 e)
kept-same (Kept.term t) (Kept.term u) e = ap Kept.term ((term_eq-Decides t u).0 e)
kept-same (Kept.theorem i) (Kept.theorem j) e = let f : i ≡ j = grind (arith, nat_tests, e) in ap Kept.theorem f
kept-same (Kept.type a) (Kept.term u) e = absurd (cc)
kept-same (Kept.type a) (Kept.theorem j) e = absurd (cc)
kept-same (Kept.term t) (Kept.type b) e = absurd (cc)
kept-same (Kept.term t) (Kept.theorem j) e = absurd (cc)
kept-same (Kept.theorem i) (Kept.type b) e = absurd (cc)
kept-same (Kept.theorem i) (Kept.term u) e = absurd (cc)

-- a key is a place of what it stands for
place-from : (x : Kept) (start : ℕ) (kept : List Kept) (k : ℕ) → position_from (kept_eq x) start kept ≡ Some k
    → (j : ℕ) × (k ≡ start + j) × (slice_get kept j ≡ Some x)
place-from x start [] k e = absurd (cc)
place-from x start (y ∷ kept) k e = go (kept_eq x y) refl e (place-from x (start + 1) kept k)
  where
    go : (b : Bool) → kept_eq x y ≡ b → cond b (Some start) (position_from (kept_eq x) (start + 1) kept) ≡ Some k
        → (position_from (kept_eq x) (start + 1) kept ≡ Some k → (j : ℕ) × (k ≡ start + 1 + j) × (slice_get kept j ≡ Some x)) → (j : ℕ) × (k ≡ start + j)
        × (slice_get (y ∷ kept) j ≡ Some x)
    go true is f rest = let g : start ≡ k = cc in (0, (let z : k ≡ start + 0 = omega (arith, g) in z), ap Some (sym (kept-same x y is)))
    go false is f rest = let r = rest f in (suc r.0, (let z : k ≡ start + suc r.0 = omega (arith, r.1) in z), r.2)

pub key-place : (x : Kept) (d : Draft) (k : ℕ) → key_of x d ≡ Some k → slice_get d.kept k ≡ Some x
key-place x d k e = let p = place-from x 0 d.kept k e in let z : k ≡ p.0 = omega (arith, p.1) in subst (λ i. slice_get d.kept i ≡ Some x) (sym z) p.2

own-key : (k : ℕ) → eq_by_cmp int_cmp (pos k) (pos k) ≡ true
own-key k = let e : nat_lt k k ≡ false = grind (arith, nat_tests) in ap (λ b. is_eq (cond b Less (cond b Greater Equal))) e

other-key : (j k : ℕ) → j ≢ k → eq_by_cmp int_cmp (pos j) (pos k) ≡ false
other-key j k h = go (nat_lt j k) (nat_lt k j) refl refl
  where
    go : (b c : Bool) → nat_lt j k ≡ b → nat_lt k j ≡ c → is_eq (cond b Less (cond c Greater Equal)) ≡ false
    go true c e f = refl
    go false true e f = refl
    go false false e f = absurd (h (grind (arith, nat_tests, e, f)))

-- one key more
holds-more : (c : Scene) (kept : List Kept) (d : Dictionary) (x : Kept) → Holds c kept d
    → Holds c (kept ++ x ∷ []) (entries.insert d (pos (length kept)) (object_of c x))
holds-more c kept d x h = record {
  at = λ k y e. elim (slice_get-one_more kept x y k e) [
    | inl old ↦
        let low : k < length kept = slice_get_within kept k y old in
        get-insert int_cmp_total d (pos (length kept)) (object_of c x) (pos k)
        ∙ ap (λ b. cond b (Some (object_of c x)) (entries.get d (pos k))) (other-key k (length kept) (λ same. absurd (omega (arith, same, low))))
        ∙ h.at k y old
    | inr new ↦
        subst (λ j. entries.get (entries.insert d (pos (length kept)) (object_of c x)) (pos j) ≡ Some (object_of c y)) (sym new.0)
        (subst (λ z. entries.get (entries.insert d (pos (length kept)) (object_of c x)) (pos (length kept)) ≡ Some (object_of c z)) new.1
        (get-insert int_cmp_total d (pos (length kept)) (object_of c x) (pos (length kept))
        ∙ ap (λ b. cond b (Some (object_of c x)) (entries.get d (pos (length kept)))) (own-key (length kept))))
  ];
}

-- what is on top gets the next key
pub ready-kept : {c : Scene} {d : Draft} {made : List Made} {stack : List Object} (x : Kept) → Ready c d made (object_of c x ∷ stack)
    → Ready c (keep x d) made (object_of c x ∷ stack)
unfolding ready-said
ready-kept {c = c} {d = d} {made = made} {stack = stack} x r =
    let k = length d.kept in
    let numbered = ready-said {next = Object.number (pos k) ∷ object_of c x ∷ stack} r (item.Number (pos k)) refl r.among in
    record {
      dictionary = entries.insert r.dictionary (pos k) (object_of c x);
      leads = leads-one c.version (d.commands ++ item.Number (pos k) ∷ []) (item.Word word.Def)
          (body_state c r.dictionary made (Object.number (pos k) ∷ object_of c x ∷ stack))
          (body_state c (entries.insert r.dictionary (pos k) (object_of c x)) made (object_of c x ∷ stack)) numbered.leads refl;
      holds = holds-more c d.kept r.dictionary x r.holds;
      among = r.among;
    }

pub wrote-kept : {c : Scene} {kept : List Kept} {made : List Made} {d : Draft} {stack : List Object} (x : Kept) → Wrote c kept made d (object_of c x ∷ stack)
    → Wrote c kept made (keep x d) (object_of c x ∷ stack)
wrote-kept {kept = kept} x w = record {
  more = w.more;
  inputs = w.inputs;
  ready = ready-kept x w.ready;
  new = w.new ++ x ∷ [];
  front = ap (λ l. l ++ x ∷ []) w.front ∙ append_assoc kept w.new (x ∷ []);
}

pub ready-popped : {c : Scene} {d : Draft} {made : List Made} {stack : List Object} (x : Object) → Ready c d made (x ∷ stack)
    → Ready c (say_word word.Pop d) made stack
ready-popped x r = ready-said r (item.Word word.Pop) refl r.among

-- what has a key is told by it
pub wrote-referred : {c : Scene} {d : Draft} {made : List Made} {stack : List Object} (k : ℕ) (x : Kept) → Ready c d made stack → slice_get d.kept k ≡ Some x
    → Wrote c d.kept made (refer k d) (object_of c x ∷ stack)
unfolding ready-said
wrote-referred {c = c} {d = d} {made = made} {stack = stack} k x r e =
    let numbered = ready-said {next = Object.number (pos k) ∷ stack} r (item.Number (pos k)) refl r.among in
    wrote-none (ready-said {next = object_of c x ∷ stack} numbered (item.Word word.Ref)
    (ap (λ (o : Option Object). ok_or o NoSuchKey >>= (λ y. Ok (body_state c r.dictionary made (y ∷ stack)))) (r.holds.at k x e)) r.among)

-- at its first place a thing is built, later it is told by its key
pub wrote-once : {c : Scene} {d : Draft} {made : List Made} {stack : List Object} (x : Kept) (build : Draft → Draft) → Ready c d made stack
    → Wrote c d.kept made (build d) (object_of c x ∷ stack) → Wrote c d.kept made (once x build d) (object_of c x ∷ stack)
wrote-once {c = c} {d = d} {made = made} {stack = stack} x build r w = go (key_of x d) refl
  where
    go : (o : Option ℕ) → key_of x d ≡ o → Wrote c d.kept made (once_at o x build d) (object_of c x ∷ stack)
    go None e = wrote-kept x w
    go (Some k) e = wrote-referred k x r (key-place x d k e)
