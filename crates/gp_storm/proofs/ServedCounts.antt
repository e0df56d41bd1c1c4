-- How many frames and commands the receipts of a storm's workers tell of.
use Rattle.std.proofs.Common.{◌≡◌, ◌≢◌, ◌<◌, ◌-◌, ℕ, Bool, cond, List, [], ◌∷◌, length, map, get_or, inl, inr, refl, sym, ap, ◌∙◌, arith, suc, zero}
use Rattle.std.specs.Prelude.{count_by, sum_by}
use Rattle.std.proofs.lemmas.List.Sums.{sum_by-cons, sum_by-append}
use Rattle.std.proofs.lemmas.List.Folds.{sum_by-replicate}
use Rattle.std.proofs.lemmas.Bool.Decides.{eqb_tells}
use Rattle.gp_machine.specs.declared.event.Command.{Command as CommandOf}
use Rattle.gp_machine.specs.declared.event.Event.{Event}
use Rattle.gp_machine.specs.declared.event.Event.TheVariants.{Burst, Frame}
use Rattle.gp_machine.specs.declared.config.PortConfig.{PortConfig}
use Rattle.gp_machine.specs.declared.entry.Entry.{Entry}
use Rattle.gp_machine.specs.declared.entry.Receipt.{Receipt}
use Rattle.gp_journal.specs.declared.piece.Piece.{Piece}
use Rattle.gp_journal.specs.Kept.{Kept, history_of}
use Rattle.gp_journal.specs.Piece.{history_of_piece}
use Rattle.gp_accounts.specs.Accounted.{Accounted}
use Rattle.gp_workers.specs.Asked.{asked_of, bursts_on, command_on, commands_of, frames_of, frames_on}
use Rattle.gp_workers.specs.Closing.{CutEnding, Ending}
use Rattle.gp_workers.specs.Ring.{GrowsByBursts}
use Rattle.gp_workers.specs.Totals.{command_event, frame_event}
use Rattle.gp_workers.specs.declared.totals.Totals.{Totals}
use Rattle.gp_storm.specs.declared.plan.Plan.{Plan}
use Rattle.gp_storm.specs.Plan.{frame_count}
use Rattle.gp_storm.specs.Serving.{AreServed}
use Rattle.gp_storm.proofs.AccountedCounts.{accounted_counts, entries_of}

-- ---- what was asked

-- how many of what was asked pass a test of events
abbrev passing : (Event → Bool) → List (ℕ × Event) → ℕ
passing p asks = count_by (λ (ask : ℕ × Event). p ask.1) asks

-- how many receipts do
abbrev pub receipts_passing : (Event → Bool) → List Receipt → ℕ
receipts_passing p receipts = count_by (λ (receipt : Receipt). p receipt.entry.event) receipts

receipts_as_asked : (p : Event → Bool) (receipts : List Receipt) → receipts_passing p receipts ≡ passing p (map asked_of receipts)
receipts_as_asked p [] = refl
receipts_as_asked p (r ∷ rs) =
    omega (
      arith,
      receipts_as_asked p rs,
      sum_by-cons (λ (x : Receipt). cond (p x.entry.event) 1 0) r rs,
      sum_by-cons (λ (ask : ℕ × Event). cond (p ask.1) 1 0) (asked_of r) (map asked_of rs),
    )

asked_count : (p : Event → Bool) (receipts : List Receipt) (asks : List (ℕ × Event)) → map asked_of receipts ≡ asks → receipts_passing p receipts ≡ passing p asks
asked_count p receipts asks is = receipts_as_asked p receipts ∙ ap (passing p) is

commands_are : (commands : List (ℕ × CommandOf)) → passing command_event (commands_of commands) ≡ length commands
commands_are [] = refl
commands_are (c ∷ cs) = omega (arith, commands_are cs, sum_by-cons (λ (ask : ℕ × Event). cond (command_event ask.1) 1 0) (command_on c) (commands_of cs))

no_frames_of_commands : (commands : List (ℕ × CommandOf)) → passing frame_event (commands_of commands) ≡ 0
no_frames_of_commands [] = refl
no_frames_of_commands (c ∷ cs) = omega (arith, no_frames_of_commands cs, sum_by-cons (λ (ask : ℕ × Event). cond (frame_event ask.1) 1 0) (command_on c) (commands_of cs))

frames_on_port : (port count : ℕ) → passing frame_event (frames_on port count) ≡ count
frames_on_port port count = omega (arith, sum_by-replicate (λ (ask : ℕ × Event). cond (frame_event ask.1) 1 0) count (port, Frame))

no_commands_on_port : (port count : ℕ) → passing command_event (frames_on port count) ≡ 0
no_commands_on_port port count = omega (arith, sum_by-replicate (λ (ask : ℕ × Event). cond (command_event ask.1) 1 0) count (port, Frame))

frames_are : (pairs : List (ℕ × ℕ)) → passing frame_event (frames_of pairs) ≡ frame_count pairs
frames_are [] = refl
frames_are (pair ∷ pairs) =
    omega (
      arith,
      frames_are pairs,
      frames_on_port pair.0 pair.1,
      sum_by-append (λ (ask : ℕ × Event). cond (frame_event ask.1) 1 0) (frames_on pair.0 pair.1) (frames_of pairs),
      sum_by-cons (λ (p : ℕ × ℕ). p.1) pair pairs,
    )

no_commands_of_frames : (pairs : List (ℕ × ℕ)) → passing command_event (frames_of pairs) ≡ 0
no_commands_of_frames [] = refl
no_commands_of_frames (pair ∷ pairs) =
    omega (arith, no_commands_of_frames pairs, no_commands_on_port pair.0 pair.1, sum_by-append (λ (ask : ℕ × Event). cond (command_event ask.1) 1 0) (frames_on pair.0 pair.1) (frames_of pairs))

no_frames_of_bursts : (port : ℕ) (bursts : List (ℕ × List ℕ)) → passing frame_event (bursts_on port bursts) ≡ 0
no_frames_of_bursts port [] = refl
no_frames_of_bursts port (b ∷ bs) = omega (arith, no_frames_of_bursts port bs, sum_by-cons (λ (ask : ℕ × Event). cond (frame_event ask.1) 1 0) (port, Burst b.0 b.1) (bursts_on port bs))

no_commands_of_bursts : (port : ℕ) (bursts : List (ℕ × List ℕ)) → passing command_event (bursts_on port bursts) ≡ 0
no_commands_of_bursts port [] = refl
no_commands_of_bursts port (b ∷ bs) = omega (arith, no_commands_of_bursts port bs, sum_by-cons (λ (ask : ℕ × Event). cond (command_event ask.1) 1 0) (port, Burst b.0 b.1) (bursts_on port bs))

-- ---- what all workers were told

-- where all terms are 0 but one, the sum is that one
one_term : {X : Type 0} (f : X → ℕ) (xs : List X) (at : ℕ) (d : X) → at < length xs → ((k : ℕ) → k < length xs → k ≢ at → f (get_or xs k d) ≡ 0) → sum_by f xs ≡ f (get_or xs at d)
one_term f [] at d l none = absurd (omega (arith, l))
one_term f (x ∷ xs) zero d l none = omega (arith, sum_by-cons f x xs, no_term f xs d (λ k short. none (suc k) (omega (arith, short)) (λ is. omega (arith, is))))
  where
    no_term : {X : Type 0} (f : X → ℕ) (xs : List X) (d : X) → ((k : ℕ) → k < length xs → f (get_or xs k d) ≡ 0) → sum_by f xs ≡ 0
    no_term f [] d none = refl
    no_term f (x ∷ xs) d none = omega (arith, sum_by-cons f x xs, none 0 (omega arith), no_term f xs d (λ k l. none (suc k) (omega (arith, l))))
one_term f (x ∷ xs) (suc at) d l none =
    omega (
      arith,
      sum_by-cons f x xs,
      none 0 (omega arith) (λ is. omega (arith, is)),
      one_term f xs at d (omega (arith, l)) (λ k short differs. none (suc k) (omega (arith, short)) (λ is. differs (omega (arith, is)))),
    )

bursts_alone : (p : Event → Bool) (receipts : List Receipt) (port : ℕ) → ((bursts : List (ℕ × List ℕ)) → passing p (bursts_on port bursts) ≡ 0) → GrowsByBursts [] receipts port → receipts_passing p receipts ≡ 0
bursts_alone p receipts port none grows = asked_count p receipts (bursts_on port grows.served) (ap (map asked_of) grows.grown.grown ∙ grows.grown.asked) ∙ none grows.served

frames_served : (plan : Plan) (last : ℕ) (workers : List (List Receipt)) → 0 < last → AreServed plan last workers → sum_by (receipts_passing frame_event) workers ≡ frame_count plan.frames.items
frames_served plan last workers some served =
    one_term (receipts_passing frame_event) workers last [] (omega (arith, served.count)) others
    ∙ asked_count frame_event (get_or workers last []) (frames_of plan.frames.items) served.frames ∙ frames_are plan.frames.items
  where
    others : (k : ℕ) → k < length workers → k ≢ last → receipts_passing frame_event (get_or workers k []) ≡ 0
    others k l differs =
        elim (eqb_tells k 0) [
          | inl first ↦
              ap (λ (n : ℕ). receipts_passing frame_event (get_or workers n [])) first.1
              ∙ asked_count frame_event (get_or workers 0 []) (commands_of plan.commands.items) served.commands ∙ no_frames_of_commands plan.commands.items
          | inr later ↦
              let above : 0 < k = omega (arith, later.1) in
              let below : k < last = omega (arith, l, differs, served.count) in
              bursts_alone frame_event (get_or workers k []) (k - 1) (no_frames_of_bursts (k - 1)) (served.bursts k above below)
        ]

commands_served : (plan : Plan) (last : ℕ) (workers : List (List Receipt)) → 0 < last → AreServed plan last workers → sum_by (receipts_passing command_event) workers ≡ length plan.commands.items
commands_served plan last workers some served =
    one_term (receipts_passing command_event) workers 0 [] (omega (arith, served.count)) others
    ∙ asked_count command_event (get_or workers 0 []) (commands_of plan.commands.items) served.commands ∙ commands_are plan.commands.items
  where
    others : (k : ℕ) → k < length workers → k ≢ 0 → receipts_passing command_event (get_or workers k []) ≡ 0
    others k l differs =
        elim (eqb_tells k last) [
          | inl end ↦
              ap (λ (n : ℕ). receipts_passing command_event (get_or workers n [])) end.1
              ∙ asked_count command_event (get_or workers last []) (frames_of plan.frames.items) served.frames ∙ no_commands_of_frames plan.frames.items
          | inr before ↦
              let above : 0 < k = omega (arith, differs) in
              let below : k < last = omega (arith, l, before.1, served.count) in
              bursts_alone command_event (get_or workers k []) (k - 1) (no_commands_of_bursts (k - 1)) (served.bursts k above below)
        ]

-- ---- what the journals keep

entries_of_histories : (journals : List Kept) → map entries_of (map history_of journals) ≡ map (λ (journal : Kept). journal.entries) journals
entries_of_histories [] = refl
entries_of_histories (j ∷ js) = ap (λ (w : List (List Entry)). j.entries ∷ w) (entries_of_histories js)

journals_count : (p : Event → Bool) (journals : List Kept) (workers : List (List Receipt)) → Accounted (map history_of journals) workers
    → sum_by (count_by (λ (e : Entry). p e.event)) (map (λ (journal : Kept). journal.entries) journals) ≡ sum_by (receipts_passing p) workers
journals_count p journals workers accounted =
    ap (sum_by (count_by (λ (e : Entry). p e.event))) (sym (entries_of_histories journals)) ∙ accounted_counts p (map history_of journals) workers accounted

-- the totals have all frames that the plan has
pub frames_planned : (plan : Plan) (last : ℕ) (configs : List PortConfig) (journals : List Kept) (totals : Totals) (workers : List (List Receipt)) → 0 < last
    → Ending configs journals totals → Accounted (map history_of journals) workers → AreServed plan last workers → totals.frames ≡ frame_count plan.frames.items
frames_planned plan last configs journals totals workers some ending accounted served =
    ending.counted.frames ∙ journals_count frame_event journals workers accounted ∙ frames_served plan last workers some served

-- and all its commands
pub commands_planned : (plan : Plan) (last : ℕ) (configs : List PortConfig) (journals : List Kept) (totals : Totals) (workers : List (List Receipt)) → 0 < last
    → Ending configs journals totals → Accounted (map history_of journals) workers → AreServed plan last workers → totals.commands ≡ length plan.commands.items
commands_planned plan last configs journals totals workers some ending accounted served =
    ending.counted.commands ∙ journals_count command_event journals workers accounted ∙ commands_served plan last workers some served

-- ---- what pieces have

entries_of_pieces : (pieces : List Piece) → map entries_of (map history_of_piece pieces) ≡ map (λ (piece : Piece). piece.entries) pieces
entries_of_pieces [] = refl
entries_of_pieces (p ∷ ps) = ap (λ (w : List (List Entry)). p.entries ∷ w) (entries_of_pieces ps)

pieces_count : (p : Event → Bool) (pieces : List Piece) (workers : List (List Receipt)) → Accounted (map history_of_piece pieces) workers
    → sum_by (count_by (λ (e : Entry). p e.event)) (map (λ (piece : Piece). piece.entries) pieces) ≡ sum_by (receipts_passing p) workers
pieces_count p pieces workers accounted =
    ap (sum_by (count_by (λ (e : Entry). p e.event))) (sym (entries_of_pieces pieces)) ∙ accounted_counts p (map history_of_piece pieces) workers accounted

-- the totals of a round have all frames of its part of the plan
pub frames_of_round : (plan : Plan) (last : ℕ) (configs : List PortConfig) (pieces : List Piece) (totals : Totals) (workers : List (List Receipt)) → 0 < last
    → CutEnding configs pieces totals → Accounted (map history_of_piece pieces) workers → AreServed plan last workers → totals.frames ≡ frame_count plan.frames.items
frames_of_round plan last configs pieces totals workers some ending accounted served =
    ending.counted.frames ∙ pieces_count frame_event pieces workers accounted ∙ frames_served plan last workers some served

-- and all its commands
pub commands_of_round : (plan : Plan) (last : ℕ) (configs : List PortConfig) (pieces : List Piece) (totals : Totals) (workers : List (List Receipt)) → 0 < last
    → CutEnding configs pieces totals → Accounted (map history_of_piece pieces) workers → AreServed plan last workers → totals.commands ≡ length plan.commands.items
commands_of_round plan last configs pieces totals workers some ending accounted served =
    ending.counted.commands ∙ pieces_count command_event pieces workers accounted ∙ commands_served plan last workers some served
