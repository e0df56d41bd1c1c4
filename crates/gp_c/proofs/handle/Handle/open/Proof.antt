-- `open` is `open_slot` at the ledger that the blank names.
use Rattle.std.proofs.Common.{◌≡◌, ℕ, List, [], ◌∷◌, ◌++◌, refl, sym, ap, ◌∙◌, subst}
use mir.Val.{Val, has_ty}
use base.Fraction.{full_share}
use base.Logic.{SProp, ent, emp, id⊢}
use base.Fml.{ftrue, flft}
use prog.Wp.{WpFn}
use types.Kit.{‵, raw, ◌⊛◌, some, later, ◌$◌, ◌∵◌, !, qed, by, move, keep, drop, split, join, fsplit, fjoin, pick, suffices, use0, use1, await}
use types.Tokens.{lft_new}
use types.Run.{stop, fld, of_opd, no_more, and_then, returns, enter}
use types.ByLocal.{alloc_all, pass_all, free_all, look_at, get, get_in, sets, lands_as}
use types.Part.{agg, sub, whole}
use contract.Monad.{fact, fact_i}
use contract.BorrowLft.{⊑_static, ◌⊑◌}
use contract.Running.{tables}
use denote.Exit.{yes}
use denote.RattleType.{RattleType, owns}
use denote.Signature.{types_at, plain}
use denote.RawPtr.{ptr_val}
use denote.Steps.{nothing, only, heard}
use denote.Param.{param, layout}
use denote.Param.Laws.{param_laws}
use denote.Struct.Tuple.{Tuple}
use denote.Triple.Clauses.{Lasts, lasts}
use denote.Triple.Spec.{triple_of}
use denote.Triple.Table.{framed}
use denote.Triple.Call.{calls_at}
use denote.Triple.Walked.{Stays, stay_dropped, walk_of, Goes-dropped}
use Rattle.std.proofs.alloc.Calls.{handle_tells, Goes-blank}
use Rattle.std.proofs.cell.Inside.{Good}
use Rattle.std.proofs.raw_atomic.Walks.{proved_at, leaves}
use Rattle.std.specs.declared.sync.ledger.Ledger.{Ghosts}
use Rattle.std.specs.contracts.prelude.BrandLedger.TheImpl.{dict}
use Rattle.gp_c.specs.Serves.{Opens}
use Rattle.gp_c.specs.Outs.{done_of}
use Rattle.std.specs.contracts.sync.ledger.Blank as blank
use Rattle.std.proofs.sync.ledger.Blank.TheLaws as blank_laws
use Rattle.gp_chassis.specs.contracts.config.ChassisConfig as config
use Rattle.gp_chassis.proofs.config.ChassisConfig.TheLaws as config_laws
use Rattle.gp_licence.specs.declared.ledger_parts.TheConstants.{MAX_LICENCES}
use Rattle.gp_c.specs.contracts.op.Out as out
use Rattle.gp_c.proofs.op.Out.TheLaws as out_laws
use Rattle.gp_c.proofs.slot.Slot.TheLaws as slot_laws
use Rattle.gp_c.proofs.Values.{both, both_tt, two_out, pair_in}
use Rattle.gp_c.proofs.Slots.{B, B_laws, Z, as_al, al, Handle, Slot, three, ptr_good, three_good, handle_in, slot_out}
use Rattle.gp_c.specs.contracts.slot.open_slot as callee
use Rattle.gp_c.proofs.slot.open_slot.Met.{met}
use Rattle.gp_c.specs.contracts.handle.Handle.open.{ended, clauses}
use Rattle.gp_c.specs.contracts.handle.Handle.open.Key.{name as #self}
use Rattle.gp_c.proofs.handle.Handle.open.Statement.{statement}
use Rattle.gp_c.proofs.handle.Handle.open.Code as code

pub open_spec : {M : Type 1} → statement M
open_spec 𝓤 𝓛 𝓜 𝓡 wired =
    let H = 𝓛.H in let 𝓣 = tables 𝓤 H 𝓜 𝓡 𝓡.env in let c = clauses 𝓛 𝓜.mem 𝓡.returns in let fn = code.function in
    let hs : Stays ended.signature.params ended.kept = (stay_dropped (plain (λ _. Z)) yes, (stay_dropped (plain (λ _. blank.the_row)) yes, (stay_dropped (plain (λ _. config.the_row)) yes, tt))) in
    proved_at 𝓛 ended hs c 𝓜 𝓡 (Goes-dropped 𝓛 0 (plain (λ _. Z)) yes (λ κs x f. refl), (Goes-dropped 𝓛 0 (plain (λ _. blank.the_row)) yes (λ κs x f. refl), (Goes-blank 𝓛 0 (plain (λ _. config.the_row)) yes (λ κs x f. tt), tt))) #self fn (code.unfolded 𝓤 H 𝓜 𝓡 wired) (λ z are.
    let κs = z.0.0 in let a = z.0.3.0 in let n = z.0.3.1.0 in let f = z.0.3.1.1.0 in let Post : Val → SProp 𝓤 = (walk_of 𝓛 ended hs c).post z in let Run : List Val → SProp 𝓤 = λ ws. WpFn 𝓤 H 𝓣.C 𝓣.Λ fn ws Post in
    let g : Ghosts B.Denot = record { name = n.name; parts = n.parts } in let S : RattleType = Slot (param 0 B) g in let O : RattleType = out.the_row in let LS = slot_laws.the_row_laws (param 0 B) g (param_laws 0 B B_laws) in let LO = out_laws.the_row_laws in
    qed 𝓛 ((‵ ftrue ⊛ ‵ (owns (types_at ended.signature.params κs) z.0.3 z.0.4)) ∷ raw (fact 𝓤 (n.parts ≡ MAX_LICENCES)) ∷ []) ∵ move ! (1 ∷ []) $ heard ! (n.parts ≡ MAX_LICENCES) (λ all. split ! $ move ! (1 ∷ []) $ fsplit ! $ handle_tells al ! a z.0.4.0 (λ av as₀ afits.
    -- [the allocator; the other parameters; the tokens]
    move ! (1 ∷ []) $ fsplit ! $ handle_tells (as_al blank.the_row blank_laws.the_row_laws) ! n z.0.4.1.0 (λ nv ns nfits. move ! (1 ∷ []) $ fsplit ! $ handle_tells (as_al config.the_row config_laws.the_row_laws) ! f z.0.4.1.1.0 (λ fv fs ffits.
    -- [the configuration; no more parameters; the blank; the allocator; the tokens]
    fjoin ! $ move ! (1 ∷ 0 ∷ []) $ fjoin ! $ move ! (1 ∷ 0 ∷ []) $ fjoin ! $
    -- [what is passed; the tokens]
    suffices ! (Run (av ∷ nv ∷ fv ∷ [])) (subst (λ (us : List Val). ent 𝓤 (Run (av ∷ nv ∷ fv ∷ [])) (Run us)) (sym (λ i. as₀ i ++ (ns i ++ (fs i ++ [])))) (id⊢ 𝓤 (Run (av ∷ nv ∷ fv ∷ [])))) $
    enter ! 𝓣.C 𝓣.Λ fn (av ∷ nv ∷ fv ∷ []) Post $ alloc_all ! (λ l. pass_all ! refl (afits, (nfits, (ffits, tt))) $
    sets ! (of_opd ! (get ! refl)) refl nfits $ sets ! (of_opd ! (get ! refl)) refl ffits $
    lft_new ! tt (λ α. let κ : List ℕ = α ∷ [] in let k = triple_of 𝓛 (callee.signature B g dict) (callee.spec B g dict 𝓛 𝓜.mem 𝓡.returns) in
    let y : k.Ghost = (((κ, tt), (full_share, tt), tt, (a, (n, (f, tt))), (av ∷ [], (nv ∷ [], (fv ∷ [], tt)))), tt) in
    nothing ! $ move ! (1 ∷ 0 ∷ []) $ join ! $ join ! $ use0 𝓛 (raw (fact 𝓤 ((n.name ≡ g.name) × (n.parts ≡ g.parts) × (g.parts ≡ MAX_LICENCES)))) (fact_i 𝓤 _ (emp 𝓤) (refl, refl, all)) $ use0 𝓛 (raw (fact 𝓤 (κ ⊑ B.lives))) (fact_i 𝓤 _ (emp 𝓤) (⊑_static κ)) $ join ! $ move ! (1 ∷ 0 ∷ []) $ join ! $ use1 𝓛 (raw (k.pre y)) (id⊢ 𝓤 _) $
    calls_at ! (framed 𝓤 H 𝓜 𝓣) k (met 𝓤 𝓛 𝓜 𝓡 (code.calls-gp_c::slot::open_slot 𝓡.env wired) B B_laws g dict (record {})) y (and_then ! (get ! refl) (and_then ! (get ! refl) (and_then ! (get ! refl) (no_more !)))) (λ u.
    use1 𝓛 (later (some (λ (r : S.Denot × O.Denot). ((‵ (flft κ full_share) ⊛ ‵ ftrue) ⊛ ‵ ((Tuple (S ∷ O ∷ [])).own_val r (u ∷ []))) ⊛ some (λ (ls : Lasts (callee.ended B g dict) (κ, tt) y.0.3). ‵ (lasts (callee.ended B g dict) (κ, tt) y.0.3 ls) ⊛ raw (fact 𝓤 (Opens f r.0.value (done_of r.1))))))) (id⊢ 𝓤 (k.post y u)) $
    await ! tt $ pick ! (λ r. split ! $ move ! (1 ∷ []) $ pick ! (λ _. split ! $ drop ! $ heard ! (Opens f r.0.value (done_of r.1)) (λ opened. split ! $ drop ! $
    -- [the slot and what was answered; ..]
    two_out S O r.0 r.1 ! refl refl (LS.lawful 𝓛) (LO.lawful 𝓛) (u ∷ []) (λ v₁ w₁ g₁ g₂ e₁. slot_out (param 0 B) g ! r.0 (v₁ ∷ []) (λ h₂ e₂ low₂ fits₂.
    let new : Handle.Denot = record { at = r.0.at; is_open = r.0.is_open; alloc = r.0.alloc; name = n.name; parts = n.parts; value = r.0.value } in let w₂ : Val = three (ptr_val r.0.at) r.0.is_open h₂ in
    let good₂ = three_good 𝓛 r.0.at r.0.is_open h₂ low₂ fits₂ in let pair_good : Good (layout (Tuple (S ∷ O ∷ []))) (both w₂ w₁) = (both_tt _ (has_ty (layout O) w₁) good₂.0 g₂.0, (good₂.1, (g₂.1, tt))) in
    handle_in ! new h₂ low₂ $ pair_in Handle O ! new r.1 w₂ w₁ $
    lands_as ! (ap only e₁ ∙ ap (λ (v : Val). both v w₁) (ap only e₂)) refl pair_good $
    sets ! (of_opd ! (get_in ! (fld ! refl (stop !)) (sub ! 0 refl (whole !)))) refl good₂ $ sets ! (of_opd ! (get_in ! (fld ! refl (stop !)) (sub ! 1 refl (whole !)))) refl g₂ $
    sets ! (of_opd ! (get_in ! (fld ! refl (stop !)) (sub ! 0 refl (whole !)))) refl (ptr_good 𝓛 r.0.at) $ sets ! (of_opd ! (get_in ! (fld ! refl (stop !)) (sub ! 1 refl (whole !)))) refl (tt, record { fits = low₂ }) $ sets ! (of_opd ! (get_in ! (fld ! refl (stop !)) (sub ! 2 refl (whole !)))) refl fits₂ $
    sets ! (of_opd ! (get ! refl)) refl (ptr_good 𝓛 r.0.at) $ sets ! (agg ! (and_then ! (get ! refl) (and_then ! (get ! refl) (and_then ! (get ! refl) (no_more !))))) refl good₂ $
    sets ! (agg ! (and_then ! (get ! refl) (and_then ! (get ! refl) (no_more !)))) refl pair_good $
    use0 𝓛 (raw (fact 𝓤 (Opens f new.value (done_of r.1)))) (fact_i 𝓤 _ (emp 𝓤) opened) $ nothing ! $ nothing ! $ fjoin ! $ nothing ! $ fjoin ! $ nothing ! $ fjoin ! $
    returns ! (look_at ! 0 refl) $ free_all ! refl $ keep ! (3 ∷ 0 ∷ 2 ∷ 1 ∷ []) $ by ! (leaves 𝓛 ended hs c z (both w₂ w₁) (new, r.1) (tt, (tt, ((tt, (tt, (tt, tt))), tt))) (tt, (tt, (tt, tt)))))))))))))))))
