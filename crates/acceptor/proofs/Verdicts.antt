-- From what a judge finds on its way to the judgement. Assumes nothing.
use Rattle.std.proofs.Common.{◌≡◌, ℕ, ◌+◌, ◌-◌, ◌<◌, ◌≤◌, true, false, not, List, length, get_or, Ok, Err, Result, fold, find, Some, None, Option, MatchOption, sym, ap, ◌∙◌, arith}
use mathlib.Core.Logic.◌⊎◌.{inl, inr}
use Rattle.std.proofs.lemmas.List.{get_or_read}
use Rattle.std.proofs.lemmas.Bool.{and_parts, and_from, both_ways, cases_Bool, not-true, not_from_false}
use Rattle.std.specs.Option.{ok_or}
use Rattle.std.specs.List.{range_with_len}
use Rattle.refusal.specs.declared.Layer.TheVariants.{Judge}
use Rattle.refusal.specs.Answers.{refused}
use Rattle.ltl.specs.Rounds.{spelling}
use Rattle.round.specs.Letters.{sound}
use Rattle.machine.specs.Machines.{Machine}
use Rattle.machine.specs.Runs.{AcceptedBy}
use Rattle.machine.specs.Judging.{bound, Passes, Judged}
use Rattle.machine.specs.Judging.Judged.{full, yes_by, no_pair}
use Rattle.machine.proofs.Looping.{sound_cycle, Favours, decided_pair}
use Rattle.acceptor.specs.Said.{told_by}
use Rattle.acceptor.specs.Walks.{turned, meets, favours, Apart, Closes, NoneBelow, FirstBelow}
use Rattle.acceptor.proofs.Walking.{along_fold, all_each, each_all, found_first}
use Rattle.acceptor.proofs.Positions.{lead_run, turned_run, meets_found, meets_at, meets_none}

-- the error that stands in for a missing value
pub or_error : {T E : Type 0} (o : Option T) {e x : E} → ◌≡◌ {A = Result T E} (Err x) (ok_or o e) → o ≡ None → x ≡ e
or_error None v p = cc
or_error (Some t) v p = cc

-- what a judge knows once the round is found sound: the machine's names and start, and the first state of the trail
module _ {S : Type 0} (m : Machine S) (lead cycle : List ℕ) {names : ℕ} {start first : S}
    (named : names ≡ m.course.names) (agreed : Ok tt ≡ sound names lead cycle)
    (started : start ≡ m.course.start) (begun : first ≡ fold m.course.next start lead) where
  granted : sound m.course.names lead cycle ≡ Ok tt
  granted = ap (λ n. sound n lead cycle) (sym named) ∙ sym agreed

  pos : 0 < length cycle
  pos = sound_cycle m.course.names lead cycle granted

  led : first ≡ bound m lead cycle 0
  led = begun ∙ ap (λ s. fold m.course.next s lead) started ∙ along_fold m.course m.course.start lead ∙ lead_run m.course lead cycle

  -- the states that the walk goes through are those at the cycles' ends
  pub turned_bound : (k : ℕ) → turned m.course first cycle k ≡ bound m lead cycle k
  turned_bound k =
      let p : 0 + k ≡ k = omega arith in
      turned_run m.course lead cycle pos 0 first led k ∙ ap (bound m lead cycle) p

  -- where all that fit in the trail are apart, the trail is full
  pub apart_full : (places : ℕ) → Apart (turned m.course first cycle) places → Judged m lead cycle places (refused 19 Judge 0)
  apart_full places apart =
      full granted (λ k h p. let r = p.recurs in apart r.0 k r.1 h (turned_bound r.0 ∙ r.2 ∙ sym (turned_bound k)))

  module _ {trail : List S} {from k : ℕ} (closed : Closes (turned m.course first cycle) trail first from k) where
    again : bound m lead cycle from ≡ bound m lead cycle k
    again = sym (turned_bound from) ∙ closed.again ∙ turned_bound k

    -- where a state is met again, that is the number of passes
    pub closed_passes : Passes m lead cycle k
    closed_passes = record {
      recurs = (from, closed.earlier, again);
      least = λ j h r. closed.first r.0 j r.1 h (turned_bound r.0 ∙ r.2 ∙ sym (turned_bound j));
    }

    module _ {s : S} (read : s ≡ get_or trail from s) where
      here : s ≡ bound m lead cycle from
      here =
          let h : from < length trail = omega (arith, closed.earlier, closed.fits) in
          get_or_read trail from s h read first ∙ closed.kept ∙ turned_bound from

      -- cycles in favour of a pair, and what the run says of it
      pub favours_accepted : (pair : ℕ) → pair < m.pairs.count →
          favours m s cycle (k - from) pair ≡ true → AcceptedBy m (spelling lead cycle) pair
      favours_accepted pair l e =
          let h = and_parts (not (meets m.course s cycle (m.pairs.avoids pair) (k - from))) _ e in
          (decided_pair m lead cycle pos from k closed.earlier again pair).1 (record {
            pair = l;
            avoids = meets_none m.course lead cycle pos from s here (m.pairs.avoids pair) k closed.earlier (not-true _ h.0);
            visits = λ q b. meets_found m.course lead cycle pos from s here (m.pairs.visited pair q) k closed.earlier
                (all_each (λ set. meets m.course s cycle (m.pairs.visited pair set) (k - from)) (m.pairs.visits pair) h.1 q b);
          })

      pub accepted_favours : (pair : ℕ) → AcceptedBy m (spelling lead cycle) pair → favours m s cycle (k - from) pair ≡ true
      accepted_favours pair a =
          let f = (decided_pair m lead cycle pos from k closed.earlier again pair).0 a in
          and_from _ _ (not_from_false _ (clear f))
          (each_all (λ set. meets m.course s cycle (m.pairs.visited pair set) (k - from)) (m.pairs.visits pair) (λ q b.
          let v = f.visits q b in
          meets_at m.course lead cycle pos from s here (m.pairs.visited pair q) k closed.earlier v.0 v.1 v.2 v.3))
        where
          clear : Favours m lead cycle from k pair → meets m.course s cycle (m.pairs.avoids pair) (k - from) ≡ false
          clear f = elim (cases_Bool (meets m.course s cycle (m.pairs.avoids pair) (k - from))) [
            | inl e ↦ let v = meets_found m.course lead cycle pos from s here (m.pairs.avoids pair) k closed.earlier e in
                absurd (both_ways _ (f.avoids v.0 v.1 v.2) v.3)
            | inr e ↦ e
          ]

      -- the first pair that the stretch favours is the verdict; where it favours none, none accepts
      pub first_told : {places : ℕ} (accepting : Option ℕ) → length trail ≡ places →
          accepting ≡ find (favours m s cycle (k - from)) (range_with_len 0 m.pairs.count) → Judged m lead cycle places (Ok (told_by accepting k))
      first_told {places} accepting long e = go accepting (found_first (favours m s cycle (k - from)) m.pairs.count accepting e)
        where
          fits : k ≤ places
          fits = omega (arith, closed.fits)

          go : (o : Option ℕ) → MatchOption o (NoneBelow (favours m s cycle (k - from)) m.pairs.count) (FirstBelow (favours m s cycle (k - from)) m.pairs.count) →
              Judged m lead cycle places (Ok (told_by o k))
          go (Some pair) f =
              yes_by pair k granted closed_passes fits (favours_accepted pair f.inside f.passes) (λ q h a. both_ways _ (f.first q h) (accepted_favours q a))
          go None none = no_pair k granted closed_passes fits (λ q a. both_ways _ (none q a.pair) (accepted_favours q a))
