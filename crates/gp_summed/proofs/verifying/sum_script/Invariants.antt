-- the new ledger is the one whose name the verifier and its licences have
use Rattle.gp_summed.proofs.verifying.sum_script.Given as goal

abbrev pub ghosts-sum_on : goal.ghosts-sum_on
ghosts-sum_on g a = record { name = a.blank.name; parts = 4064 }
