mod FsSets
