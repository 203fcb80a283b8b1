use Rattle.share_words.proofs.words.Words.offer.Given as goal

abbrev pub ghosts-offer_as : goal.ghosts-offer_as
ghosts-offer_as a = record { share = a.self.now.share; parent = a.parent; path = a.path }
