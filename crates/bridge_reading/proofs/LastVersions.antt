-- The version that the machine keeps at the end of an article is that of its text.
use Rattle.std.proofs.Common.{◌≡◌, Bool, true, false, cond, pos, List, [], ◌∷◌, map, Result, Ok, refl, sym, ap, subst, ◌∙◌, inl, inr}
use Rattle.std.specs.Ordering.{int_eq}
use Rattle.common.specs.declared.faults.Kind.{Kind}
use Rattle.hol_spec.specs.declared.Version.{Version}
use Rattle.hol_spec.specs.declared.Version.TheVariants.{Five, Six}
use Rattle.article_spec.specs.declared.commands.Command.{Command}
use Rattle.article_spec.specs.declared.commands.Item.{Item}
use Rattle.article_spec.specs.declared.commands.Item.TheVariants as item
use Rattle.article_spec.specs.declared.commands.Word.{Word}
use Rattle.article_spec.specs.declared.commands.Word.TheVariants as word
use Rattle.article_spec.specs.Lines.{End, ended, refused}
use Rattle.article_spec.specs.State.{State, start, version, body, version_at}
use Rattle.article_spec.specs.Step.{obey, obey_item, in_body, second_word, step_at, step, finish}
use Rattle.article_spec.specs.Run.{machine, at_line, obey_all, end_article, obey_article}
use Rattle.article_laws.specs.PlacesKept.{obey-keeps}
use Rattle.article_laws.specs.SecondWords.{second_word-cases}
use Rattle.article_laws.specs.SoundStates.{bound}
use Rattle.article_laws.specs.SoundSteps.{on_line}
use Rattle.article_write_spec.specs.Versions.{version_of}

-- a command of the body keeps the place
obey_item-keeps : (s t : State) (i : Item) → obey_item s i ≡ Ok t → t.place ≡ s.place
obey_item-keeps s t (item.Number z) e = same _ e refl
  where
    same : (u : State) → ◌≡◌ {A = Result State Kind} (Ok u) (Ok t) → u.place ≡ s.place → t.place ≡ s.place
    same u e h = let f : u ≡ t = cc in subst (λ (v : State). v.place ≡ s.place) f h
obey_item-keeps s t (item.Name n) e = same _ e refl
  where
    same : (u : State) → ◌≡◌ {A = Result State Kind} (Ok u) (Ok t) → u.place ≡ s.place → t.place ≡ s.place
    same u e h = let f : u ≡ t = cc in subst (λ (v : State). v.place ≡ s.place) f h
obey_item-keeps s t (item.Word w) e = obey-keeps s w t e

-- so do all, in the body of an article of a version
body-keeps : (commands : List Command) (v : Version) (s t : State) → s.place ≡ body v → obey_all machine s commands ≡ Ok t → t.place ≡ body v
body-keeps [] v s t h e = let f : s ≡ t = cc in subst (λ (u : State). u.place ≡ body v) f h
body-keeps (c ∷ cs) v s t h e =
    let next = bound (at_line c.line (step s c)) _ t e in
    let one : step_at s.place s c.item ≡ Ok next.0 = on_line c.line (step s c) next.0 next.1 in
    let two : obey_item s c.item ≡ Ok next.0 = subst (λ p. step_at p s c.item ≡ Ok next.0) h one in
    body-keeps cs v next.0 t (obey_item-keeps s next.0 c.item two ∙ h) next.2

in-body : (commands : List Command) (v : Version) (s t : State) → s.place ≡ body v → obey_all machine s commands ≡ Ok t → version_at t.place ≡ v
in-body commands v s t h e = ap version_at (body-keeps commands v s t h e)

-- the first command, where it is one of a body of version 5
first-body : (i : Item) (s next : State) → obey_item (in_body Five s) i ≡ Ok next → next.place ≡ body Five
first-body i s next e = obey_item-keeps (in_body Five s) next i e

-- where the first number isn't 6, nothing says a version
other-number : (z : _) (items : List Item) → int_eq z (pos 6) ≡ false → version_of (item.Number z ∷ items) ≡ Five
other-number z (item.Word word.Version ∷ items) e = rw e refl
other-number z items e = refl

-- nor does a second word that isn't `version`
no-version : (z : _) (w : Word) (items : List Item) (s : State) → second_word s w ≡ obey (in_body Five s) w → (next : State) → second_word s w ≡ Ok next
    → version_of (item.Number z ∷ item.Word w ∷ items) ≡ Five
no-version z word.Version items s e next f = absurd (let g : obey (in_body Five s) word.Version ≡ Ok next = sym e ∙ f in cc)
no-version z w items s e next f = refl

-- After the number 6
after-six : (z : _) (commands : List Command) (s t : State) → int_eq z (pos 6) ≡ true → s.place ≡ version → obey_all machine s commands ≡ Ok t
    → version_at t.place ≡ version_of (item.Number z ∷ map (λ c. c.item) commands)
after-six z [] s t six h e = let f : s ≡ t = cc in ap version_at (subst (λ (u : State). u.place ≡ version) f h)
after-six z (c ∷ cs) s t six h e =
    let next = bound (at_line c.line (step s c)) _ t e in
    let one : step_at s.place s c.item ≡ Ok next.0 = on_line c.line (step s c) next.0 next.1 in
    go c.item next.0 (subst (λ p. step_at p s c.item ≡ Ok next.0) h one) next.2
  where
    go : (i : Item) (next : State) → step_at version s i ≡ Ok next → obey_all machine next cs ≡ Ok t → version_at t.place
        ≡ version_of (item.Number z ∷ i ∷ map (λ c. c.item) cs)
    go (item.Number y) next one more = in-body cs Five next t (first-body (item.Number y) s next one) more
    go (item.Name n) next one more = in-body cs Five next t (first-body (item.Name n) s next one) more
    go (item.Word w) next one more = elim (second_word-cases s w) [
      | inl is ↦ subst (λ u. version_at t.place ≡ version_of (item.Number z ∷ item.Word u ∷ map (λ c. c.item) cs)) (sym is) (
          let said : second_word s word.Version ≡ Ok next = ap (second_word s) (sym is) ∙ one in
          let place : next.place ≡ body Six = same _ said refl in
          in-body cs Six next t place more ∙ (rw six refl))
      | inr is ↦ in-body cs Five next t (obey-keeps (in_body Five s) w next (sym is ∙ one)) more ∙ sym (no-version z w (map (λ c. c.item) cs) s is next one)
    ]
      where
        same : (u : State) → ◌≡◌ {A = Result State Kind} (Ok u) (Ok next) → u.place ≡ body Six → next.place ≡ body Six
        same u e h = let f : u ≡ next = cc in subst (λ (v : State). v.place ≡ body Six) f h

-- The commands of an article
commands-version : (commands : List Command) (v : Version) (s t : State) → s.place ≡ start v → obey_all machine s commands ≡ Ok t → version_at t.place
    ≡ version_of (map (λ c. c.item) commands)
commands-version [] v s t h e = let f : s ≡ t = cc in ap version_at (subst (λ (u : State). u.place ≡ start v) f h)
commands-version (c ∷ cs) v s t h e =
    let next = bound (at_line c.line (step s c)) _ t e in
    let one : step_at s.place s c.item ≡ Ok next.0 = on_line c.line (step s c) next.0 next.1 in
    go c.item next.0 (subst (λ p. step_at p s c.item ≡ Ok next.0) h one) next.2
  where
    go : (i : Item) (next : State) → step_at (start v) s i ≡ Ok next → obey_all machine next cs ≡ Ok t → version_at t.place
        ≡ version_of (i ∷ map (λ c. c.item) cs)
    go (item.Name n) next one more = in-body cs Five next t (first-body (item.Name n) s next one) more
    go (item.Word w) next one more = in-body cs Five next t (first-body (item.Word w) s next one) more
    go (item.Number z) next one more = by (int_eq z (pos 6)) refl (placed _ one)
      where
        placed : (u : State) → ◌≡◌ {A = Result State Kind} (Ok u) (Ok next) → next.place ≡ u.place
        placed u e = let f : u ≡ next = cc in ap (λ (v : State). v.place) (sym f)

        by : (b : Bool) → int_eq z (pos 6) ≡ b → next.place ≡ cond (int_eq z (pos 6)) version (body Five) → version_at t.place
            ≡ version_of (item.Number z ∷ map (λ c. c.item) cs)
        by true is place = after-six z cs next t is (place ∙ ap (λ b. cond b version (body Five)) is) more
        by false is place = in-body cs Five next t (place ∙ ap (λ b. cond b version (body Five)) is) more ∙ sym (other-number z (map (λ c. c.item) cs) is)

-- The version of an article
pub article-version : (commands : List Command) (end : End) (v : Version) (s t : State) → s.place ≡ start v → obey_article machine s commands end ≡ Ok t
    → t.place ≡ start (version_of (map (λ c. c.item) commands))
article-version commands end v s t h e =
    let last = bound (obey_all machine s commands) _ t e in
    finished last.0 end last.2 ∙ ap start (commands-version commands v s last.0 h last.1)
  where
    finished : (u : State) (x : End) → end_article machine u x ≡ Ok t → t.place ≡ start (version_at u.place)
    finished u (ended line) f = placed _ (on_line line (finish u) t f)
      where
        placed : (w : State) → ◌≡◌ {A = Result State Kind} (Ok w) (Ok t) → t.place ≡ w.place
        placed w e = let f : w ≡ t = cc in ap (λ (v : State). v.place) (sym f)
    finished u (refused line kind) f = absurd (cc)
