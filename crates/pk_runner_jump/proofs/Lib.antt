mod JumpLemmas
