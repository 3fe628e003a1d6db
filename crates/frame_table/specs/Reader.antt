-- A reader of frames: its commands, how each is spelt, its table, and how the first bytes and the numbers of an accepted frame pick the
-- command. What follows from the tests is proved here once for every reader: it agrees with the grammar, a frame spells one command,
-- a command has one spelling. Assumes nothing.
use Prim.Native.Nat.{ℕ, zero, suc, ◌≤◌}
use Rattle.std.proofs.Common.{arith, true≢false, sym, ap₂, ◌∙◌, subst, leb-true}
use Rattle.std.specs.Prelude.{Bool, true, ◌&&◌, false, ◌↔◌, ◌≡◌, refl, leb, length, Option, Some, None, option_and_then}
use Rattle.std.proofs.Math.Bool.{cond}
use mathlib.Core.List.{List, [], ◌∷◌, ◌++◌, map}
use Rattle.std.proofs.Math.Path.{ap}
use Rattle.std.proofs.lemmas.Option.{none-some}
use Rattle.lists.specs.Both.{both}
use Rattle.lists.specs.Tests.{by_test}
use Rattle.numeral.specs.Laws.{one_spelling}
use Rattle.frame_table.specs.declared.Numbers.{Numbers}
use Rattle.frame_table.specs.Pieces.{Piece, sign, number, digit, text, columns, Matches, end, signs, digits}
use Rattle.frame_table.specs.Kinds.{Kind, of_kind, first_of, others_of}
use Rattle.frame_table.specs.Rest.{Mark, fits, fits_append, fits_none}
use Rattle.frame_table.specs.Spelling.{marks_of, is_plain, fits_one, how_many, numbers_in, Fills, matched_fits, fits_filled, filled_matches, either, or_left, or_right}
use Rattle.frame_table.specs.Numbers.{pair, numbers_from, numbers_told, begins_each, numbers_read}
use Rattle.frame_table.specs.Opens.{heads, opens, Every, opened}
use Rattle.frame_table.specs.Table.{Table, state_from, accepts, listed, whole, right}
use Rattle.frame_table.specs.Accepts.{same_marks_lem, accepts_right}
use Rattle.frame_table.specs.Run.{accepted_in}

-- so many of two numbers: none, the first, or both
abbrev pub numbered : ℕ → ℕ → ℕ → List ℕ
numbered zero m n = []
numbered (suc zero) m n = m ∷ []
numbered (suc (suc k)) m n = m ∷ n ∷ []

pub record Reader : Type 1 where
  pub Command : Type 0
  -- how a command is spelt, and the command of an accepted frame by so many first bytes and its numbers
  pub form : Command → List Piece
  pub depth : ℕ
  pub pick : List ℕ → Numbers → Option Command
  -- the first bytes of frames that are no commands: labels and pictures
  pub others : List ℕ → Bool
  -- each kind of command, by its numbers
  pub kinds : List (ℕ → ℕ → Command)
  pub table : Table
  pub examples : List (List ℕ)

module _ (e : Reader) where
  abbrev pub Maker : Type 0
  Maker = ℕ → ℕ → e.Command

  abbrev pub marks : Maker → List Mark
  marks k = marks_of (e.form (k 0 0))

  abbrev pub forms_of : List (List Mark)
  forms_of = map marks e.kinds

  abbrev pub Spells : e.Command → List ℕ → Type 0
  Spells c f = Matches (e.form c) f

  -- WHAT THE READER FINDS, by a table of classes and one of next states; and by its own: a command, or None in a bad frame
  unfoldable pub read_with : List ℕ → List ℕ → List ℕ → Option e.Command
  read_with class next f =
      cond (leb e.table.good (state_from class next e.table.states 1 f)) (e.pick (heads e.depth f) (numbers_from (pair 0 0) f)) None

  abbrev pub reading : List ℕ → Option e.Command
  reading f = read_with e.table.class e.table.next f

  -- The tests of a kind with two numbers. Its form is signs and numbers, it is in the table, each of its numbers begins anew; whatever first
  -- bytes it may have pick it, and are no label's and no picture's; whatever the numbers, its marks are the same, and it has these
  -- numbers, two at most.
  abbrev pub is_known : e.Command → Bool
  is_known c = is_plain (e.form c) && listed (marks_of (e.form c)) forms_of && begins_each (pair 0 0) (e.form c)

  abbrev opens_of : e.Command → List (List ℕ)
  opens_of c = opens e.depth 0 (marks_of (e.form c))

  pub record Test : Type 0 where
    pub known : Bool
    pub picks : List (Option e.Command)
    pub others : List Bool
    pub marked : List Mark
    pub numbers : List ℕ
    pub few : Bool

  abbrev pub test : ℕ → ℕ → Maker → Test
  test m n k =
      let c = k m n in
      record {
        known = is_known c;
        picks = map (λ (w : List ℕ). e.pick w (numbers_told (pair 0 0) (e.form c))) (opens_of c);
        others = map e.others (opens_of c);
        marked = marks_of (e.form c);
        numbers = numbers_in (e.form c);
        few = leb (how_many (marks k)) 2;
      }

  abbrev pub passed : ℕ → ℕ → Maker → Test
  passed m n k =
      let c = k m n in
      record {
        known = true;
        picks = map (λ (w : List ℕ). Some c) (opens_of c);
        others = map (λ (w : List ℕ). false) (opens_of c);
        marked = marks k;
        numbers = numbered (how_many (marks k)) m n;
        few = true;
      }

  -- THE TESTS: of the table, and of each kind with any two numbers; and no other command is spelt
  pub record Tested : Type 0 where
    pub table_right : right forms_of e.examples e.table ≡ true
    pub kinds_right : (m n : ℕ) → map (test m n) e.kinds ≡ map (passed m n) e.kinds
    pub kind : (c : e.Command) (f : List ℕ) → Spells c f → Kind e.kinds c

-- the reading by what two tables accept: refused, or picked
module _ (e : Reader) (class next f : List ℕ) where
  by_accepted : read_with e class next f ≡ option_and_then (e.pick (heads e.depth f)) (accepted_in class next e.table.states e.table.good f)
  unfolding read_with accepted_in
  by_accepted = by_test (leb e.table.good (state_from class next e.table.states 1 f)) (λ h. rw h) (λ h. rw h)

  pub read_refused : accepted_in class next e.table.states e.table.good f ≡ None → None ≡ read_with e class next f
  read_refused h = sym (by_accepted ∙ rw h)

  pub read_picked : {r : Numbers} {x : Option e.Command} → accepted_in class next e.table.states e.table.good f ≡ Some r → x ≡ e.pick (heads e.depth f) r → x ≡ read_with e class next f
  read_picked h q = q ∙ sym (by_accepted ∙ rw h)

one_match : (ps : List Piece) {f g : List ℕ} → is_plain ps ≡ true → Matches ps f → Matches ps g → f ≡ g
one_match [] h end end = refl
one_match (sign s ∷ ps) h (signs _ m) (signs _ k) = ap (λ (x : List ℕ). s ++ x) (one_match ps h m k)
one_match (number r n ∷ ps) h (digits a m) (digits b k) = ap₂ {C = List ℕ} (λ (d x : List ℕ). d ++ x) (one_spelling a b) (one_match ps h m k)
one_match (digit r n ∷ ps) h m k = absurd (true≢false (sym h))
one_match (text x ∷ ps) h m k = absurd (true≢false (sym h))
one_match (columns cs ∷ ps) h m k = absurd (true≢false (sym h))

-- What is spelt is read ---------------------------------------------------------------------------------------------

listed_fits : (ms : List Mark) (forms : List (List Mark)) (f : List ℕ) → listed ms forms ≡ true → fits_one 0 ms f ≡ true → fits (whole forms) f ≡ true
listed_fits ms [] f h k = absurd (true≢false (sym h))
listed_fits ms (qs ∷ more) f h k =
    fits_append ((0, qs) ∷ []) (whole more) f
    ∙ either h
    (λ e. or_left (fits (whole more) f) (subst (λ (x : List Mark). fits_one 0 x f ≡ true) (same_marks_lem ms qs e) k))
    (λ e. or_right (fits_one 0 qs f) (listed_fits ms more f e k))

each_picked : {R : Type 0} (pick : List ℕ → R) (r : R) (ws : List (List ℕ)) → map pick ws ≡ map (λ (w : List ℕ). r) ws → Every (λ (w : List ℕ). pick w ≡ r) ws
each_picked pick r [] h = tt
each_picked pick r (w ∷ ws) h = (first_of h, each_picked pick r ws (others_of h))

-- What is read was spelt --------------------------------------------------------------------------------------------

record Two (ns : List ℕ) (k : ℕ) : Type 0 where
  m : ℕ
  n : ℕ
  same : ns ≡ numbered k m n

two_of : (ns : List ℕ) (k : ℕ) → length ns ≡ k → k ≤ 2 → Two ns k
two_of [] zero h l = record { m = 0; n = 0; same = refl }
two_of [] (suc k) h l = absurd (omega arith)
two_of (a ∷ []) zero h l = absurd (omega arith)
two_of (a ∷ []) (suc zero) h l = record { m = a; n = 0; same = refl }
two_of (a ∷ []) (suc (suc k)) h l = absurd (omega arith)
two_of (a ∷ b ∷ []) zero h l = absurd (omega arith)
two_of (a ∷ b ∷ []) (suc zero) h l = absurd (omega arith)
two_of (a ∷ b ∷ []) (suc (suc k)) h l = record { m = a; n = b; same = refl }
two_of (a ∷ b ∷ c ∷ more) k h l = absurd (omega arith)

same_command : {C : Type 0} (c c' : C) → Some c ≡ Some c' → c ≡ c'
same_command c c' h = cc

module _ (e : Reader) (t : Tested e) where
  accepted : (f : List ℕ) → accepts e.table f ≡ fits (whole (forms_of e)) f
  accepted f = accepts_right (forms_of e) e.examples e.table t.table_right f

  -- What every command of a kind passes
  record Passed (c : e.Command) : Type 0 where
    plain : is_plain (e.form c) ≡ true
    listed : listed (marks_of (e.form c)) (forms_of e) ≡ true
    begins : begins_each (pair 0 0) (e.form c) ≡ true
    picks : map (λ (w : List ℕ). e.pick w (numbers_told (pair 0 0) (e.form c))) (opens e.depth 0 (marks_of (e.form c))) ≡ map (λ (w : List ℕ). Some c) (opens e.depth 0 (marks_of (e.form c)))
    others : map e.others (opens e.depth 0 (marks_of (e.form c))) ≡ map (λ (w : List ℕ). false) (opens e.depth 0 (marks_of (e.form c)))

  passes : {c : e.Command} → Kind e.kinds c → Passed c
  passes k =
      let r = of_kind e.kinds (test e k.m k.n) (passed e k.m k.n) (t.kinds_right k.m k.n) k.place k.same in
      subst Passed r.is (of_test (r.maker k.m k.n) (ap (λ (x : Test e). x.known) r.same) (ap (λ (x : Test e). x.picks) r.same) (ap (λ (x : Test e). x.others) r.same))
    where
      of_test : (c : e.Command) → is_known e c ≡ true
          → map (λ (w : List ℕ). e.pick w (numbers_told (pair 0 0) (e.form c))) (opens e.depth 0 (marks_of (e.form c))) ≡ map (λ (w : List ℕ). Some c) (opens e.depth 0 (marks_of (e.form c)))
          → map e.others (opens e.depth 0 (marks_of (e.form c))) ≡ map (λ (w : List ℕ). false) (opens e.depth 0 (marks_of (e.form c)))
          → Passed c
      of_test c h p o =
          let w = both {a = is_plain (e.form c) && listed (marks_of (e.form c)) (forms_of e)} h in
          let v = both {a = is_plain (e.form c)} w.0 in
          record { plain = v.0; listed = v.1; begins = w.1; picks = p; others = o }

  spelt_passes : (c : e.Command) (f : List ℕ) → Spells e c f → Passed c
  spelt_passes c f s = passes (t.kind c f s)

  fit : (c : e.Command) {f : List ℕ} → Spells e c f → fits_one 0 (marks_of (e.form c)) f ≡ true
  fit c {f} s = matched_fits (spelt_passes c f s).plain s

  pub complete : (c : e.Command) (f : List ℕ) → Spells e c f → reading e f ≡ Some c
  unfolding read_with accepts
  complete c f s =
      let w = spelt_passes c f s in
      let P : List ℕ → Type 0 = λ x. e.pick x (numbers_told (pair 0 0) (e.form c)) ≡ Some c in
      rw (accepted f ∙ listed_fits (marks_of (e.form c)) (forms_of e) f w.listed (fit c s), numbers_read (pair 0 0) w.plain w.begins s)
      (opened e.depth P 0 (marks_of (e.form c)) f (each_picked _ (Some c) (opens e.depth 0 (marks_of (e.form c))) w.picks) (fit c s))

  -- A command's first bytes are no label's and no picture's.
  pub no_other : (c : e.Command) (f : List ℕ) → Spells e c f → e.others (heads e.depth f) ≡ false
  no_other c f s =
      let P : List ℕ → Type 0 = λ x. e.others x ≡ false in
      opened e.depth P 0 (marks_of (e.form c)) f (each_picked _ false (opens e.depth 0 (marks_of (e.form c))) (spelt_passes c f s).others) (fit c s)

  pub kind_plain : {c : e.Command} → Kind e.kinds c → is_plain (e.form c) ≡ true
  kind_plain k = (passes k).plain

  known_plain : (c : e.Command) → is_known e c ≡ true → is_plain (e.form c) ≡ true
  known_plain c h = (both {a = is_plain (e.form c)} (both {a = is_plain (e.form c) && listed (marks_of (e.form c)) (forms_of e)} h).0).0

  record Spelt (f : List ℕ) : Type 0 where
    command : e.Command
    spelt : Spells e command f

  -- a frame that fits the marks of a kind spells the command of that kind with some numbers
  spelt_by : (k : Maker e) (f : List ℕ) → how_many (marks e k) ≤ 2 → ((m n : ℕ) → (marks_of (e.form (k m n)) ≡ marks e k) × (numbers_in (e.form (k m n)) ≡ numbered (how_many (marks e k)) m n) × (is_known e (k m n) ≡ true)) → fits_one 0 (marks e k) f ≡ true → Spelt f
  spelt_by k f few same h =
      let r = fits_filled (marks e k) f h in
      let w = two_of r.numbers (how_many (marks e k)) r.count few in
      let c = k w.m w.n in
      let v = same w.m w.n in
      let fills : Fills (marks_of (e.form c)) (numbers_in (e.form c)) f = rw (v.0, v.1, ← w.same) r.fills in
      record { command = c; spelt = filled_matches (e.form c) (known_plain c v.2) fills }

  spelt_in : (ks : List (Maker e)) (f : List ℕ) → ((m n : ℕ) → map (test e m n) ks ≡ map (passed e m n) ks) → fits (whole (map (marks e) ks)) f ≡ true → Spelt f
  spelt_in [] f same h = absurd (true≢false (sym h ∙ fits_none f))
  spelt_in (k ∷ ks) f same h =
      either (sym (fits_append ((0, marks e k) ∷ []) (whole (map (marks e) ks)) f) ∙ h)
      (λ g. spelt_by k f (leb-true (how_many (marks e k)) 2 (ap (λ (x : Test e). x.few) (first_of (same 0 0))))
      (λ m n. let t = first_of (same m n) in (ap (λ (x : Test e). x.marked) t, ap (λ (x : Test e). x.numbers) t, ap (λ (x : Test e). x.known) t)) g)
      (λ g. spelt_in ks f (λ m n. others_of (same m n)) g)

  refused : (f : List ℕ) → accepts e.table f ≡ false → reading e f ≡ None
  unfolding read_with accepts
  refused f g = rw g

  -- What is read is bad, or a command that is spelt.
  pub by_reading : (P : Option e.Command → Type 0) (f : List ℕ) → P None → ((c : e.Command) → Spells e c f → P (Some c)) → P (reading e f)
  by_reading P f b g =
      by_test (accepts e.table f)
      (λ h. let r = spelt_in e.kinds f t.kinds_right (sym (accepted f) ∙ h) in
      subst P (sym (complete r.command f r.spelt)) (g r.command r.spelt))
      (λ h. subst P (sym (refused f h)) b)

  -- THE READER FINDS A COMMAND EXACTLY WHERE THE FRAME SPELLS IT.
  pub agree : (c : e.Command) (f : List ℕ) → (reading e f ≡ Some c) ↔ Spells e c f
  agree c f = (sound, complete c f)
    where
      sound : reading e f ≡ Some c → Spells e c f
      sound = by_reading (λ (x : Option e.Command). x ≡ Some c → Spells e c f) f (λ b. absurd (none-some c b)) (λ d s b. subst (λ (y : e.Command). Spells e y f) (same_command d c b) s)

  -- A frame spells one command at most.
  pub one_command : (c c' : e.Command) (f : List ℕ) → Spells e c f → Spells e c' f → c ≡ c'
  one_command c c' f s s' = same_command c c' (sym (complete c f s) ∙ complete c' f s')

  -- A command has one spelling at most.
  pub one_frame : (c : e.Command) (f g : List ℕ) → Spells e c f → Spells e c g → f ≡ g
  one_frame c f g s s' = one_match (e.form c) (spelt_passes c f s).plain s s'
