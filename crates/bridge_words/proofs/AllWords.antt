-- What the command makes of all words.
use Rattle.std.proofs.Common.{◌≡◌, ◌∙◌, ◌++◌, ℕ, Bool, true, false, List, [], ◌∷◌, Option, Some, codes, refl, sym, ap₂, subst, is_some, drop}
use Rattle.std.specs.Prelude.{◌==◌}
use Rattle.std.specs.List.{AllByRecursion, fold}
use Rattle.std.specs.Bool.{one_answer}
use Rattle.std.specs.Str.{bytes_eq}
use Rattle.std.proofs.lemmas.Slice.Eq.{bytes_eq-Decides}
use Rattle.clap.specs.Walk.{Text, Walk, Names, rows_after, walked, walk_from, nothing_held, settled, finished}
use Rattle.clap.specs.Simple.{names_of, entered, subcommand_of}
use Rattle.clap.specs.Kinds.{Kinds, or_else}
use Rattle.clap.specs.Faults.{walk_fault, defaults_fault, settle_fault, check_fault, entered_fault, fault_of}
use Rattle.clap.proofs.WalkLemmas.{walk_stopped}
use Rattle.bridge_spec.specs.Forms.{Form, show, form_of}
use Rattle.bridge_words.specs.Commands.{bridge_app}
use Rattle.bridge_words.specs.Matches.{read, read_files, read_verify, read_translate, read_check, read_decode, read_trial}
use Rattle.bridge_words.proofs.WordKinds.{Kind, file, budget, named, fast, share, fast_valued, share_valued, other}
use Rattle.bridge_words.proofs.BuiltCommand.{top_shape, built_app, files_leaf, verify_leaf, translate_leaf, check_leaf, decode_leaf, trial_leaf}
use Rattle.bridge_words.proofs.Leaves.{taken, fault, decode-words, trial-words}
use Rattle.bridge_words.proofs.CheckWalk.{check-words}
use Rattle.bridge_words.proofs.RunWalk.{verify-words, translate-words}
use Rattle.bridge_words.proofs.FilesWords.{files-words}

abbrev names : Names
names = names_of built_app

-- the walk at a subcommand, with the words after it
abbrev at : Text → List Text → Walk
at name words = record (walk_from nothing_held) { stopped = Some (name, words) }

-- past a subcommand nothing is at fault above it
walk_fault-past : (name : Text) (seen words : List Text) → walk_fault top_shape names (at name seen) words ≡ []
unfolding walk_fault walked
walk_fault-past name seen [] = refl
walk_fault-past name seen (x ∷ words) = walk_fault-past name (seen ++ x ∷ []) words

-- what is asked for, where the walk over all words has this fault and ends here
abbrev asked_at : Kinds → Walk → Option Form
asked_at step w =
    taken (or_else step (or_else (entered_fault built_app w.stopped)
    (or_else (settle_fault [] false w.held)
    (or_else (defaults_fault (settled [] w.held).rows []) (check_fault top_shape (finished [] w.held) (is_some (entered built_app w.stopped)))))))
    (read (entered built_app w.stopped))

-- the words after a subcommand are left to it
asked_at-name : (name : Text) (words : List Text) → asked_at (walk_fault top_shape names (at name []) words) (fold (walked [] names) (at name []) words)
    ≡ asked_at [] (at name words)
asked_at-name name words = ap₂ asked_at (walk_fault-past name [] words) (sym (walk_stopped [] names (walk_from nothing_held) name [] words))

-- nothing is at fault after the last words
or_else-nil : (k : Kinds) (form : Option Form) → taken (or_else k []) form ≡ taken k form
or_else-nil [] form = refl
or_else-nil (x ∷ k) form = refl

-- the words ask for their form
abbrev Asks : List Text → Type 0
Asks words = taken (fault_of bridge_app words) (read (subcommand_of bridge_app words)) ≡ form_of words

-- two texts that differ, the other way round
bytes_eq-turned : (xs ys : Text) → bytes_eq xs ys ≡ false → bytes_eq ys xs ≡ false
bytes_eq-turned xs ys n = one_answer (bytes_eq ys xs) (bytes_eq xs ys) (bytes_eq-Decides ys xs)
    (λ e. sym ((bytes_eq-Decides xs ys).0 e), λ e. (bytes_eq-Decides xs ys).1 (sym e)) ∙ n

module _ (program : Text) (ws : List Text) (h : AllByRecursion Kind ws) where
  -- so it is with each subcommand
  verify-asks : Asks (program ∷ codes "verify" ∷ ws)
  unfolding walked walk_fault defaults_fault
  verify-asks = asked_at-name (codes "verify") ws ∙ or_else-nil (fault verify_leaf ws) (read_verify (rows_after verify_leaf.rules [] ws)) ∙ verify-words ws h

  translate-asks : Asks (program ∷ codes "translate" ∷ ws)
  unfolding walked walk_fault defaults_fault
  translate-asks = asked_at-name (codes "translate") ws ∙ or_else-nil (fault translate_leaf ws) (read_translate (rows_after translate_leaf.rules [] ws))
      ∙ translate-words ws h

  show-asks : Asks (program ∷ codes "show" ∷ ws)
  unfolding walked walk_fault defaults_fault
  show-asks = asked_at-name (codes "show") ws ∙ or_else-nil (fault (files_leaf (codes "show")) ws)
      (read_files show (rows_after (files_leaf (codes "show")).rules [] ws)) ∙ files-words (codes "show") show ws h

  check-asks : Asks (program ∷ codes "check" ∷ ws)
  unfolding walked walk_fault defaults_fault
  check-asks = asked_at-name (codes "check") ws ∙ or_else-nil (fault check_leaf ws) (read_check (rows_after check_leaf.rules [] ws)) ∙ check-words ws h

  decode-asks : Asks (program ∷ codes "decode" ∷ ws)
  unfolding walked walk_fault defaults_fault
  decode-asks = asked_at-name (codes "decode") ws ∙ or_else-nil (fault decode_leaf ws) (read_decode (rows_after decode_leaf.rules [] ws)) ∙ decode-words ws h

  trial-asks : Asks (program ∷ codes "trial" ∷ ws)
  unfolding walked walk_fault defaults_fault
  trial-asks = asked_at-name (codes "trial") ws ∙ or_else-nil (fault trial_leaf ws) (read_trial (rows_after trial_leaf.rules [] ws)) ∙ trial-words ws h

  article-asks : Asks (program ∷ codes "article" ∷ ws)
  unfolding walked walk_fault defaults_fault
  article-asks = asked_at-name (codes "article") ws
      ∙ or_else-nil (fault (files_leaf (codes "article")) ws) (read_files Form.article (rows_after (files_leaf (codes "article")).rules [] ws))
      ∙ files-words (codes "article") Form.article ws h

  -- a word that is no subcommand's name
  no-name : (b : ℕ) (bs : Text) → (b == 45) ≡ false
      → bytes_eq (b ∷ bs) (codes "verify") ≡ false → bytes_eq (b ∷ bs) (codes "translate") ≡ false → bytes_eq (b ∷ bs) (codes "check") ≡ false
      → bytes_eq (b ∷ bs) (codes "show") ≡ false → bytes_eq (b ∷ bs) (codes "decode") ≡ false → bytes_eq (b ∷ bs) (codes "trial") ≡ false
      → bytes_eq (b ∷ bs) (codes "article") ≡ false → Asks (program ∷ (b ∷ bs) ∷ ws)
  unfolding walked walk_fault defaults_fault
  no-name b bs e v t c s d r a =
      simp (
        e,
        v,
        t,
        c,
        s,
        d,
        r,
        a,
        bytes_eq-turned (b ∷ bs) (codes "verify") v,
        bytes_eq-turned (b ∷ bs) (codes "translate") t,
        bytes_eq-turned (b ∷ bs) (codes "check") c,
        bytes_eq-turned (b ∷ bs) (codes "show") s,
        bytes_eq-turned (b ∷ bs) (codes "decode") d,
        bytes_eq-turned (b ∷ bs) (codes "trial") r,
        bytes_eq-turned (b ∷ bs) (codes "article") a,
      ) refl

  -- a first word, whatever it is
  first-asks : (w : Text) → Kind w → Asks (program ∷ w ∷ ws)
  unfolding walked walk_fault defaults_fault
  first-asks w budget = refl
  first-asks w (named number) = refl
  first-asks w fast = refl
  first-asks w share = refl
  first-asks w (fast_valued value) = refl
  first-asks w (share_valued value) = refl
  first-asks w (other c cs o) = refl
  first-asks w (file b bs e) = go (bytes_eq w (codes "verify")) refl (bytes_eq w (codes "translate")) refl (bytes_eq w (codes "check")) refl
      (bytes_eq w (codes "show")) refl (bytes_eq w (codes "decode")) refl (bytes_eq w (codes "trial")) refl (bytes_eq w (codes "article")) refl
    where
      is : (name : Text) → bytes_eq (b ∷ bs) name ≡ true → Asks (program ∷ name ∷ ws) → Asks (program ∷ (b ∷ bs) ∷ ws)
      is name same asks = subst (λ x. Asks (program ∷ x ∷ ws)) (sym ((bytes_eq-Decides (b ∷ bs) name).0 same)) asks

      go : (v : Bool) → bytes_eq (b ∷ bs) (codes "verify") ≡ v → (t : Bool) → bytes_eq (b ∷ bs) (codes "translate") ≡ t → (c : Bool)
          → bytes_eq (b ∷ bs) (codes "check") ≡ c
          → (s : Bool) → bytes_eq (b ∷ bs) (codes "show") ≡ s → (d : Bool) → bytes_eq (b ∷ bs) (codes "decode") ≡ d → (r : Bool)
          → bytes_eq (b ∷ bs) (codes "trial") ≡ r
          → (a : Bool) → bytes_eq (b ∷ bs) (codes "article") ≡ a → Asks (program ∷ (b ∷ bs) ∷ ws)
      go true v t t2 c c2 s s2 d d2 r r2 a a2 = is (codes "verify") v verify-asks
      go false v true t c c2 s s2 d d2 r r2 a a2 = is (codes "translate") t translate-asks
      go false v false t true c s s2 d d2 r r2 a a2 = is (codes "check") c check-asks
      go false v false t false c true s d d2 r r2 a a2 = is (codes "show") s show-asks
      go false v false t false c false s true d r r2 a a2 = is (codes "decode") d decode-asks
      go false v false t false c false s false d true r a a2 = is (codes "trial") r trial-asks
      go false v false t false c false s false d false r true a = is (codes "article") a article-asks
      go false v false t false c false s false d false r false a = no-name b bs e v t c s d r a

-- all words
pub words-ask : (words : List Text) → AllByRecursion Kind (drop 1 words) → Asks words
unfolding walked walk_fault defaults_fault
words-ask [] h = refl
words-ask (program ∷ []) h = refl
words-ask (program ∷ w ∷ ws) h = first-asks program ws h.1 w h.0
