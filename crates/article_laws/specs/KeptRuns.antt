-- Each command keeps what the moves keep, and so does the end of an article: so it is true of each state of a run.
use Rattle.std.proofs.Common.{◌≡◌, ℕ, ◌+◌, ℤ, List, [], ◌∷◌, None, Result, Ok, Err, refl, sym, ap, subst, ◌∙◌, inl, inr}
use Rattle.std.specs.Prelude.{drop}
use Rattle.std.specs.List.{AllByRecursion}
use Rattle.std.specs.Ordering.{int_cmp}
use Rattle.std.specs.FinMap as entries
use Rattle.common.specs.declared.faults.Kind.{Kind}
use Rattle.hol_spec.specs.declared.Version.TheVariants.{Five, Six}
use Rattle.hol_spec.specs.Names.{Name}
use Rattle.hol_spec.specs.Proofs.{Made, Accepted}
use Rattle.hol_laws.specs.Members.{All-each}
use Rattle.article_spec.specs.declared.commands.Command.{Command}
use Rattle.article_spec.specs.declared.commands.Item.{Item}
use Rattle.article_spec.specs.declared.commands.Item.TheVariants as item
use Rattle.article_spec.specs.declared.commands.Word.{Word}
use Rattle.article_spec.specs.declared.commands.Word.TheVariants as word
use Rattle.article_spec.specs.Lines.{Lines, End, ended, refused}
use Rattle.article_spec.specs.State.{Object, State, Stage, start, version, body, initial}
use Rattle.article_spec.specs.Step.{in_body, obey_item, second_word, step_at, step, finish}
use Rattle.article_spec.specs.Run.{machine, at_line, obey_all, obey_article, accepted_state, Outcome, accepted, refused_at, RunsFrom, finished, passed, stopped, Run}
use Rattle.article_laws.specs.Binds.{bound}
use Rattle.article_laws.specs.KeptWords.{answered, obey-keeps}
use Rattle.article_laws.specs.Moves.{Invariant, RunHas, ObjectsHave, Holds, Moves}
use Rattle.article_laws.specs.Parts.{Parts, IsOf}
use Rattle.article_laws.specs.SecondWords.{second_word-cases}

-- an item whose name, where it is one, has a property
abbrev pub ItemHas : (Name → Type 0) → Item → Type 0
ItemHas P (item.Number z) = Unit {0}
ItemHas P (item.Name n) = P n
ItemHas P (item.Word w) = Unit {0}

-- a run has what it has at any place
abbrev pub Placed : Invariant → Type 0
Placed i = (s : State) (p : Stage) → RunHas i s → RunHas i (record s { place = p })

-- and at the end of an article, whose exports are then the pool
abbrev pub Ended : Invariant → Type 0
Ended i = (s : State) → RunHas i s → RunHas i (record s { pool = s.exports })

-- nothing is kept in a new dictionary
no-objects : (p : Parts) → ObjectsHave p [] entries.empty
no-objects p = record {
  stacked = tt {0};
  kept = λ k x e. let f : entries.get {K = ℤ} {X = Object} {R = int_cmp} entries.empty k ≡ None = simp entries.gets in absurd (cc);
}

pub initial-holds : (i : Invariant) → RunHas i initial → Holds i initial
initial-holds i h = record { objects = no-objects (i.parts []); run = h }

module _ (i : Invariant) (moves : Moves i) (placed : Placed i) where
  -- another stack and another place
  moved : (s : State) (p : Stage) (stack : List Object) → Holds i s → AllByRecursion (IsOf (i.parts s.made)) stack
      → Holds i (record s { stack = stack; place = p })
  moved s p stack g h = record { objects = record { stacked = h; kept = g.objects.kept }; run = placed s p g.run }

  in_body-holds : (s : State) → Holds i s → Holds i (in_body Five s)
  in_body-holds s g = moved s (body Five) s.stack g g.objects.stacked

  dropped : (p : Parts) (xs : List Object) → AllByRecursion (IsOf p) xs → AllByRecursion (IsOf p) (drop 1 xs)
  dropped p [] h = tt
  dropped p (x ∷ xs) h = h.1

  obey_item-keeps : (s t : State) (x : Item) → Holds i s → ItemHas (i.parts s.made).name x → obey_item s x ≡ Ok t → Holds i t
  obey_item-keeps s t (item.Number z) g h e = answered i _ t e (moved s s.place (Object.number z ∷ s.stack) g (tt {0}, g.objects.stacked))
  obey_item-keeps s t (item.Name n) g h e = answered i _ t e (moved s s.place (Object.name n ∷ s.stack) g (h, g.objects.stacked))
  obey_item-keeps s t (item.Word w) g h e = obey-keeps i moves s t w g e

  second_word-keeps : (s t : State) (w : Word) → Holds i s → second_word s w ≡ Ok t → Holds i t
  second_word-keeps s t w g e = elim (second_word-cases s w) [
    | inl f ↦
        let k : second_word s word.Version ≡ Ok t = ap (second_word s) (sym f) ∙ e in
        answered i _ t k (moved s (body Six) (drop 1 s.stack) g (dropped (i.parts s.made) s.stack g.objects.stacked))
    | inr f ↦ obey-keeps i moves (in_body Five s) t w (in_body-holds s g) (sym f ∙ e)
  ]

  step_at-keeps : (s t : State) (p : Stage) (x : Item) → Holds i s → ItemHas (i.parts s.made).name x → step_at p s x ≡ Ok t → Holds i t
  step_at-keeps s t (start v) (item.Number z) g h e = answered i _ t e (moved s _ (Object.number z ∷ s.stack) g (tt {0}, g.objects.stacked))
  step_at-keeps s t (start v) (item.Name n) g h e = obey_item-keeps (in_body Five s) t (item.Name n) (in_body-holds s g) h e
  step_at-keeps s t (start v) (item.Word w) g h e = obey_item-keeps (in_body Five s) t (item.Word w) (in_body-holds s g) h e
  step_at-keeps s t version (item.Number z) g h e = obey_item-keeps (in_body Five s) t (item.Number z) (in_body-holds s g) h e
  step_at-keeps s t version (item.Name n) g h e = obey_item-keeps (in_body Five s) t (item.Name n) (in_body-holds s g) h e
  step_at-keeps s t version (item.Word w) g h e = second_word-keeps s t w g e
  step_at-keeps s t (body v) x g h e = obey_item-keeps s t x g h e

  pub step-keeps : (s t : State) (c : Command) → Holds i s → ItemHas (i.parts s.made).name c.item → step s c ≡ Ok t → Holds i t
  step-keeps s t c g h e = step_at-keeps s t s.place c.item g h e

-- The end of an article.
pub finish-keeps : (i : Invariant) → Placed i → Ended i → (s t : State) → Holds i s → finish s ≡ Ok t → Holds i t
finish-keeps i placed closed s t g e =
    answered i _ t e (record { objects = no-objects (i.parts s.made); run = placed (record s { pool = s.exports }) _ (closed s g.run) })

pub on_line : (line : ℕ) (a : Result State Kind) (t : State) → at_line line a ≡ Ok t → a ≡ Ok t
on_line line (Ok s) t e = cc
on_line line (Err k) t e = absurd (cc)

the_accepted : Accepted → Outcome → Accepted
the_accepted a (accepted b) = b
the_accepted a (refused_at k line kind) = a

abbrev pub AreOfItems : (Name → Type 0) → List Command → Type 0
AreOfItems N cs = AllByRecursion (λ (c : Command). ItemHas N c.item) cs

-- the texts of articles have a property, by which the names in their commands have one
pub record Reads (B : List ℕ → Type 0) (N : Name → Type 0) : Type 0 where
  pub commands : (bytes : List ℕ) (cs : List Command) (line : ℕ) → Lines bytes cs (ended line) → B bytes → AreOfItems N cs

-- nothing is asked of texts, nor of names
pub any_item : (x : Item) → ItemHas (λ n. Unit {0}) x
any_item (item.Number z) = tt
any_item (item.Name n) = tt
any_item (item.Word w) = tt

reads_anything : Reads (λ bytes. Unit {0}) (λ n. Unit {0})
reads_anything = record { commands = λ bytes cs line l h. All-each _ cs (λ c k. any_item c.item) }

module _ (i : Invariant) (moves : Moves i) (placed : Placed i) (closed : Ended i) (B : List ℕ → Type 0) (N : Name → Type 0) (reads : Reads B N)
    (names : (m : List Made) (x : Item) → ItemHas N x → ItemHas (i.parts m).name x) where
  obey_all-keeps : (cs : List Command) (s t : State) → AreOfItems N cs → Holds i s → obey_all machine s cs ≡ Ok t → Holds i t
  obey_all-keeps [] s t h g e = let f : s ≡ t = cc in subst (Holds i) f g
  obey_all-keeps (c ∷ cs) s t h g e =
      let next = bound (at_line c.line (step s c)) _ t e in
      let one = step-keeps i moves placed s next.0 c g (names s.made c.item h.0) (on_line c.line (step s c) next.0 next.1) in
      obey_all-keeps cs next.0 t h.1 one next.2

  obey_article-keeps : (s t : State) (bytes : List ℕ) (cs : List Command) (end : End) → B bytes → Lines bytes cs end → Holds i s
      → obey_article machine s cs end ≡ Ok t → Holds i t
  obey_article-keeps s t bytes cs (ended line) h l g e =
      let last = bound (obey_all machine s cs) _ t e in
      finish-keeps i placed closed last.0 t (obey_all-keeps cs s last.0 (reads.commands bytes cs line l h) g last.1) (on_line line (finish last.0) t last.2)
  obey_article-keeps s t bytes cs (refused line kind) h l g e = let last = bound (obey_all machine s cs) _ t e in absurd (let z = last.2 in cc)

  module _ (Q : Accepted → Type 0) (gives : (s : State) → Holds i s → Q (accepted_state s)) where
    runs-have : (k : ℕ) (s : State) (articles : List (List ℕ)) (o : Outcome) (a : Accepted) → AllByRecursion B articles → Holds i s → o ≡ accepted a
        → RunsFrom machine k s articles o → Q a
    unfolding the_accepted
    runs-have k s [] o a h g e (finished f) = subst Q (ap (the_accepted a) (sym f ∙ e)) (gives s g)
    runs-have k s (bytes ∷ rest) o a h g e (passed {next = t} {commands = cs} {end = x} l p r) =
        runs-have (k + 1) t rest o a h.1 (obey_article-keeps s t bytes cs x h.0 l g p) e r
    runs-have k s (bytes ∷ rest) o a h g e (stopped {line = n} {kind = m} l p f) = let q : accepted a ≡ refused_at k n m = sym e ∙ f in absurd (cc)

    -- Each accepted run has what holds at its start, is kept by the moves, and gives it.
    pub run-has : (articles : List (List ℕ)) (a : Accepted) → RunHas i initial → AllByRecursion B articles → Run articles (accepted a) → Q a
    run-has articles a h b r = runs-have 1 initial articles (accepted a) a b (initial-holds i h) refl r

-- so it has where nothing is asked of names
pub every_run : (i : Invariant) → Moves i → Placed i → Ended i → ((m : List Made) (x : Item) → ItemHas (i.parts m).name x) → (Q : Accepted → Type 0)
    → ((s : State) → Holds i s → Q (accepted_state s)) → RunHas i initial → (articles : List (List ℕ)) (a : Accepted) → Run articles (accepted a) → Q a
every_run i moves placed closed names Q gives first articles a r =
    run-has i moves placed closed (λ bytes. Unit {0}) (λ n. Unit {0}) reads_anything (λ m x h. names m x) Q gives
    articles a first (All-each _ articles (λ bytes k. tt {0})) r
